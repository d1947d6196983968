-- Some launch is refused exactly where some outcome is a refusal.
use Rattle.std.proofs.Common.{◌≡◌, ◌∙◌, ◌||◌, ℕ, List, [], ◌∷◌, map, refl, ap, ap₂, sym}
use Rattle.std.specs.Prelude.{Result, Ok, Err, is_err}
use Rattle.std.specs.List.{list_any}
use Rattle.refusal.specs.Answer.{◌>>=◌}
use Rattle.list_model.specs.Entries.{Entry, commands_of}
use Rattle.rim_desc.specs.declared.measurement.Measurement.{Measurement}
use Rattle.rim_launch.specs.LaunchData.{LaunchData}
use Rattle.ipa_layout.specs.Layout.{PlacedData}
use Rattle.rmi_list.specs.Measured.{page_contents}
use Rattle.rim_manifest.specs.Launches.{NamedData}
use Rattle.rim_rules.proofs.ListsOfValues.{list_any_map}
use Rattle.rim_accepted.specs.Accepted.{accepted_of, commands_for, entries_of, placed_of, rim_after, rim_for}
use Rattle.rim_accepted.specs.Lines.{has_refused, seen}
use Rattle.rim_accepted.specs.declared.audit_fault.AuditFault.{AuditFault}

-- a launch has no measurement exactly where it is not accepted
pub same_refusal : (l : LaunchData) (files : List (List ℕ)) → is_err (rim_for l files) ≡ is_err (accepted_of l files)
unfolding rim_for commands_for accepted_of
same_refusal l files = by_place (placed_of l files)
  where
    by_list : (p : PlacedData) (found : Result (List Entry) AuditFault)
        → is_err ((found >>= λ entries. Ok (commands_of (page_contents l files p) entries)) >>= λ commands. Ok (rim_after l commands))
        ≡ is_err (found >>= λ entries. Ok p)
    by_list p (Err fault) = refl
    by_list p (Ok entries) = refl

    by_place : (place : Result PlacedData AuditFault)
        → is_err ((place >>= λ p. entries_of l p >>= λ entries. Ok (commands_of (page_contents l files p) entries)) >>= λ commands. Ok
        (rim_after l commands)) ≡ is_err (place >>= λ p. entries_of l p >>= λ entries. Ok p)
    by_place (Err fault) = refl
    by_place (Ok p) = by_list p (entries_of l p)

each_refusal : (files : List (List ℕ)) (ls : List NamedData) → list_any (λ l. is_err (rim_for l.launch files)) ls ≡ has_refused files ls
each_refusal files [] = refl
each_refusal files (l ∷ ls) = ap₂ ◌||◌ (same_refusal l.launch files) (each_refusal files ls)

seen_refused : (outcomes : List (Result Measurement AuditFault)) → list_any is_err (map seen outcomes) ≡ list_any is_err outcomes
seen_refused [] = refl
seen_refused (Ok rim ∷ outcomes) = seen_refused outcomes
seen_refused (Err fault ∷ outcomes) = refl

-- some launch is refused exactly where some outcome is a refusal
pub any-refused : (files : List (List ℕ)) (ls : List NamedData) (outcomes : List (Result Measurement AuditFault))
    → map seen outcomes ≡ map (λ l. rim_for l.launch files) ls → list_any is_err outcomes ≡ has_refused files ls
any-refused files ls outcomes same =
    sym (seen_refused outcomes)
    ∙ ap (λ (os : List (Result (List ℕ) AuditFault)). list_any is_err os) same
    ∙ list_any_map is_err (λ (l : NamedData). rim_for l.launch files) ls
    ∙ each_refusal files ls
