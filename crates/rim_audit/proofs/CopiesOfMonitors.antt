-- A copy of a monitor is where the monitor of each launch is that begins with the same commands.
use Rattle.std.proofs.Common.{◌≡◌, ℕ, ◌≤◌, ◌∙◌, Bool, true, false, zero, suc, List, [], ◌∷◌, ◌++◌, length, get_or, take, ap, sym, subst, arith, slice_set}
use Rattle.std.specs.Prelude.{if◌then◌else◌, IfSome, None, Option, Some, replicate}
use Rattle.std.specs.List.{All, remove, slice_get}
use Rattle.std.proofs.lemmas.List.{take-take}
use Rattle.std.proofs.lemmas.List.Elements.{All-append, All-drop}
use Rattle.std.proofs.lemmas.Option.{same_Some}
use Rattle.rim_desc.specs.Measurement.{measurement_of}
use Rattle.rim_desc.specs.PageBytes.{page_bytes}
use Rattle.rim_desc.specs.declared.command.Command.{Command}
use Rattle.rim_desc.specs.declared.measurement.Algo.{Algo}
use Rattle.rim_desc.specs.declared.rule.RecRule.{RecRule}
use Rattle.rim_desc.specs.declared.source.Source.TheVariants.{File}
use Rattle.rim_desc.specs.declared.measurement.Measurement.{Measurement}
use Rattle.rmm_model.specs.Run.{run}
use Rattle.rmm_model.specs.State.{empty_state}
use Rattle.list_model.specs.Entries.{Entry}
use Rattle.rim_launch.specs.LaunchData.{LaunchData}
use Rattle.ipa_layout.specs.Layout.{PlacedData, bytes_of_source}
use Rattle.rmi_list.specs.Common.{AgreeOn}
use Rattle.rmi_list.specs.Measured.{page_contents}
use Rattle.rim_audit.specs.declared.commands.LaunchCommands.{LaunchCommands}
use Rattle.rim_audit.specs.declared.copies.MonitorCopy.{MonitorCopy}
use Rattle.rim_audit.specs.inside.Commands.{commands_in, state_after}
use Rattle.rim_audit.specs.inside.Copies.{AreMarked, ServesWithin, state_of}

-- ---- marks

-- none at first
pub none-marked : (n number : ℕ) → slice_get (replicate n false) number ≡ Some true → ⊥
none-marked zero number at = absurd (cc)
none-marked (suc n) zero at = absurd (cc)
none-marked (suc n) (suc number) at = none-marked n number at

-- and one more
pub one-more : (P : ℕ → Type 0) (marks : List Bool) (i number : ℕ) (b : Bool) → ((n : ℕ) → slice_get marks n ≡ Some true → P n) → (b ≡ true → P i)
    → slice_get (slice_set marks i b) number ≡ Some true → P number
one-more P [] i number b old new at = absurd (cc)
one-more P (m ∷ marks) zero zero b old new at = new (same_Some b true at)
one-more P (m ∷ marks) zero (suc number) b old new at = old (suc number) at
one-more P (m ∷ marks) (suc i) zero b old new at = old zero at
one-more P (m ∷ marks) (suc i) (suc number) b old new at = one-more (λ n. P (suc n)) marks i number b (λ n here. old (suc n) here) new at

-- pages of items that are marked have the same measurements
pub agree : (l own : LaunchData) (files : List (List ℕ)) (p q : PlacedData) (marks : List Bool) → l.config.algo ≡ own.config.algo
    → AreMarked p.items q.items marks
    → AgreeOn marks (page_contents l files p) (page_contents own files q)
agree l own files p q marks algo marked = λ number page at.
    let s = marked number at in
    let bytes : List ℕ = bytes_of_source files p (File s.file) in
    rw (s.at, s.at_other, s.source, s.source_other) (ap (λ (bs : List ℕ). let m : Measurement = record { bytes = bs } in m)
    (ap (λ (a : Algo). measurement_of a (page_bytes s.item.lead bytes page)) algo
    ∙ ap (λ (lead : ℕ). measurement_of own.config.algo (page_bytes lead bytes page)) s.lead))

-- ---- the first commands

-- lists that are the same for a while lead to the same
pub led-alike : (aux own : ℕ) (rule other : Option RecRule) (count most : ℕ) (cs ds : List Command) → aux ≡ own → rule ≡ other → count ≤ most
    → take most cs ≡ take most ds
    → run (empty_state aux rule) (take count cs) ≡ run (empty_state own other) (take count ds)
led-alike aux own rule other count most cs ds same same_rule le first =
    ap (λ (n : ℕ). run (empty_state n rule) (take count cs)) same
    ∙ ap (λ (r : Option RecRule). run (empty_state own r) (take count cs)) same_rule
    ∙ ap (run (empty_state own other)) (sym (take-take count most cs le) ∙ ap (take count) first ∙ take-take count most ds le)

-- a copy serves where it was given no more commands than are the same
pub serve-within : (c : LaunchCommands) (files : List (List ℕ)) (launch : LaunchData) (p : PlacedData) (plan : List Entry) (ks : List MonitorCopy)
    (o : Option ℕ)
    → IfSome o (λ shared. shared ≤ length (commands_in c))
    → IfSome o (λ shared. (count : ℕ) → count ≤ shared → state_of launch files p plan count ≡ state_after c count)
    → All (λ m. m.monitor ≡ state_of launch files p plan m.count) ks → IfSome o (λ shared. All (ServesWithin c shared) ks)
serve-within c files launch p plan ks None within same all = tt
serve-within c files launch p plan ks (Some shared) within same all =
    λ i d lt le. (let low : (get_or ks i d).count ≤ length (commands_in c) = omega (arith, le, within) in low, all i d lt ∙ same (get_or ks i d).count le)

-- ---- copies that are kept, and dropped

all-of-one : {X : Type 0} (P : X → Type 0) (x : X) → P x → All P (x ∷ [])
all-of-one P x p zero d lt = p
all-of-one P x p (suc i) d lt = absurd (omega (arith, lt))

pub all-pushed : {X : Type 0} (P : X → Type 0) (old new : List X) (x : X) (b : Bool) → new ≡ (if b then old ++ x ∷ [] else old) → All P old → P x → All P new
all-pushed P old new x true is all p = subst (All P) (sym is) (All-append P old (x ∷ []) all (all-of-one P x p))
all-pushed P old new x false is all p = subst (All P) (sym is) all

pub all-after-first : {X : Type 0} (P : X → Type 0) (xs : List X) → All P xs → All P (remove xs 0)
all-after-first P [] all = all
all-after-first P (x ∷ xs) all = All-drop P 1 (x ∷ xs) all
