-- A launch that is accepted has a place and a list.
use Rattle.std.proofs.Common.{◌≡◌, ℕ, ◌∙◌, List, true, false, refl, ap, sym}
use Rattle.std.specs.Prelude.{Result, Ok, Err, is_err}
use Rattle.std.specs.Result.{result_map_both}
use Rattle.refusal.specs.Answer.{◌>>=◌}
use Rattle.list_model.specs.Entries.{Entry, commands_of}
use Rattle.rim_desc.specs.declared.command.Command.{Command}
use Rattle.rim_launch.specs.LaunchData.{LaunchData}
use Rattle.ipa_layout.specs.Layout.{PlacedData, places}
use Rattle.ipa_layout.specs.declared.fault.LayoutFault.{LayoutFault}
use Rattle.rmi_list.specs.Listed.{listed}
use Rattle.rmi_list.specs.Measured.{page_contents}
use Rattle.rmi_list.specs.declared.fault.ListFault.{ListFault}
use Rattle.rim_accepted.specs.Accepted.{accepted_of, commands_for, layout_fault, list_fault, rim_after, rim_for}
use Rattle.rim_accepted.specs.declared.audit_fault.AuditFault.{AuditFault}

-- the place of a launch that is accepted, and its list
pub record IsAccepted (l : LaunchData) (files : List (List ℕ)) (p : PlacedData) : Type 0 where
  pub placed : places l files ≡ Ok p
  pub entries : List Entry
  pub listed : listed l p ≡ Ok entries

at_list : (l : LaunchData) (p : PlacedData) → Result (List Entry) ListFault → Result PlacedData AuditFault
at_list l p found = result_map_both (λ entries. entries) list_fault found >>= λ entries. Ok p

pub accepted-is : (l : LaunchData) (files : List (List ℕ)) (p : PlacedData) → accepted_of l files ≡ Ok p → IsAccepted l files p
unfolding accepted_of at_list
accepted-is l files p accepted = by_place (places l files) refl accepted
  where
    by_list : (q : PlacedData) → places l files ≡ Ok q → (found : Result (List Entry) ListFault) → listed l q ≡ found → at_list l q found ≡ Ok p
        → IsAccepted l files p
    by_list q placed (Err fault) is same = absurd (cc)
    by_list q placed (Ok entries) is same =
        let e : q ≡ p = cc in
        record { placed = placed ∙ ap (λ (x : PlacedData). Ok x) e; entries = entries; listed = ap (listed l) (sym e) ∙ is }

    by_place : (place : Result PlacedData LayoutFault) → places l files ≡ place
        → (result_map_both (λ q. q) layout_fault place >>= λ q. at_list l q (listed l q)) ≡ Ok p → IsAccepted l files p
    by_place (Err fault) is same = absurd (cc)
    by_place (Ok q) is same = by_list q is (listed l q) refl same

-- a launch that is refused has no measurement, and the same refusal
pub refused-rim : (l : LaunchData) (files : List (List ℕ)) (fault : AuditFault) → accepted_of l files ≡ Err fault → rim_for l files ≡ Err fault
unfolding accepted_of commands_for rim_for
refused-rim l files fault refused = by_place (places l files) refused
  where
    by_list : (q : PlacedData) (found : Result (List Entry) ListFault) → (result_map_both (λ entries. entries) list_fault found >>= λ entries. Ok q) ≡ Err fault
        → ((result_map_both (λ entries. entries) list_fault found >>= λ entries. Ok (commands_of (page_contents l files q) entries)) >>= λ commands. Ok
        (rim_after l commands)) ≡ Err fault
    by_list q (Err e) is = ap (λ (f : AuditFault). Err f) (cc)
    by_list q (Ok entries) is = absurd (cc)

    by_place : (place : Result PlacedData LayoutFault)
        → (result_map_both (λ q. q) layout_fault place >>= λ q. result_map_both (λ entries. entries) list_fault (listed l q) >>= λ entries. Ok q) ≡ Err fault
        → ((result_map_both (λ q. q) layout_fault place >>= λ q. result_map_both (λ entries. entries) list_fault (listed l q) >>= λ entries. Ok
        (commands_of (page_contents l files q) entries))
        >>= λ commands. Ok (rim_after l commands)) ≡ Err fault
    by_place (Err e) is = ap (λ (f : AuditFault). Err f) (cc)
    by_place (Ok q) is = by_list q (listed l q) is

-- a launch that has a refusal in the place of a measurement is refused so
pub refused-so : (l : LaunchData) (files : List (List ℕ)) (fault : AuditFault) → is_err (rim_for l files) ≡ is_err (accepted_of l files)
    → rim_for l files ≡ Err fault → accepted_of l files ≡ Err fault
refused-so l files fault alike refused = by_place (accepted_of l files) refl
  where
    by_place : (place : Result PlacedData AuditFault) → accepted_of l files ≡ place → accepted_of l files ≡ Err fault
    by_place (Ok p) is =
        let on : is_err (accepted_of l files) ≡ true = sym alike ∙ ap (λ (r : Result (List ℕ) AuditFault). is_err r) refused in
        let off : is_err (accepted_of l files) ≡ false = ap (λ (r : Result PlacedData AuditFault). is_err r) is in
        absurd (cc)
    by_place (Err other) is =
        let both : Err other ≡ Err fault = sym (refused-rim l files other is) ∙ refused in
        let same : other ≡ fault = cc in
        is ∙ ap (λ (f : AuditFault). Err f) same

-- the commands of a launch that is accepted, with this list
pub commands-are : (l : LaunchData) (files : List (List ℕ)) (p : PlacedData) (entries : List Entry) → accepted_of l files ≡ Ok p → listed l p ≡ Ok entries
    → commands_for l files ≡ Ok (commands_of (page_contents l files p) entries)
unfolding commands_for
commands-are l files p entries accepted listed = rw ((accepted-is l files p accepted).placed, listed) refl

-- a launch without a measurement has no commands
pub commands-refused : (l : LaunchData) (files : List (List ℕ)) (fault : AuditFault) → rim_for l files ≡ Err fault → commands_for l files ≡ Err fault
unfolding rim_for
commands-refused l files fault refused = by_commands (commands_for l files) refused
  where
    by_commands : (found : Result (List Command) AuditFault) → (found >>= λ commands. Ok (rim_after l commands)) ≡ Err fault → found ≡ Err fault
    by_commands (Ok commands) is = absurd (cc)
    by_commands (Err e) is = ap (λ (f : AuditFault). Err f) (cc)
