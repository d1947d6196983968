-- Granules side by side are delegated one after another.
use Rattle.std.proofs.Common.{inl, inr, ◌≡◌, ℕ, zero, suc, ◌+◌, ◌*◌, ◌%◌, ◌≤◌, ◌∙◌, refl, ap, arith, Bool, true, false, eqb, List, [], ◌∷◌, ◌++◌, length, map}
use Rattle.std.specs.Prelude.{Ok, None}
use Rattle.std.specs.List.{list_all}
use Rattle.std.proofs.lemmas.Bool.{and_parts, cases_Bool, eqb-true}
use Rattle.std.proofs.lemmas.Bool.Decides.{nat_tests}
use Rattle.rim_desc.specs.declared.command.Command.{Command}
use Rattle.rim_desc.specs.declared.command.Command.TheVariants.{Delegate}
use Rattle.rmm_model.specs.Blocks.{granules, is_multiple}
use Rattle.rmm_model.specs.Space.{has}
use Rattle.rmm_model.specs.State.{State}
use Rattle.rmm_model.specs.Owners.{all_delegated, give, give_all, is_delegated, kind_of}
use Rattle.rmm_model.specs.Effects.{changed}
use Rattle.rmm_model.specs.Step.{step}
use Rattle.rmm_model.specs.Run.{accepted, run, shown}
use Rattle.rmm_model.specs.declared.outcome.Kind.{Kind}
use Rattle.rmm_model.specs.declared.outcome.Kind.TheVariants as kind
use Rattle.rmm_model.proofs.KindsAfterGifts.{kind_of-here, kind_of-other}
use Rattle.rmm_model.proofs.ListAfterList.{accepted-taken, run-taken, shown-taken}
use Rattle.rmm_model.proofs.CommandsTaken.{delegate-taken}
use Rattle.list_model.specs.Entries.{Contents, Entry, commands_of, delegate_all}

-- ---- granules side by side

pub granules-multiple : (n x : ℕ) → x % 4096 ≡ 0 → list_all (is_multiple 4096) (granules n x) ≡ true
unfolding granules
granules-multiple zero x at = refl
granules-multiple (suc n) x at = rw (at, granules-multiple n (x + 4096) (omega arith)) refl

pub length-granules : (n x : ℕ) → length (granules n x) ≡ n
unfolding granules
length-granules zero x = refl
length-granules (suc n) x = let i : length (granules n (x + 4096)) ≡ n = length-granules n (x + 4096) in omega arith

-- one after all of them is none of them
pub granules-past : (k x y : ℕ) → x + 4096 * k ≤ y → has (granules k x) y ≡ false
unfolding granules
granules-past zero x y far = refl
granules-past (suc k) x y far =
    let e : eqb x y ≡ false = grind (arith, nat_tests) in
    rw (e, granules-past k (x + 4096) y (omega arith)) refl

-- ---- granules that were given a kind

delegated-stays : (n x : ℕ) (owners : List (ℕ × Kind)) (h : ℕ) → is_delegated owners h ≡ true → is_delegated (give_all owners (granules n x) kind.Delegated) h ≡ true
unfolding granules give_all
delegated-stays zero x owners h old = old
delegated-stays (suc n) x owners h old =
    delegated-stays n (x + 4096) (give owners x kind.Delegated) h (elim (cases_Bool (eqb h x)) [
      | inl e ↦ (let same : h ≡ x = eqb-true h x e in rw same (rw (kind_of-here owners x kind.Delegated) refl))
      | inr other ↦ rw (kind_of-other owners x h kind.Delegated (λ e. (let t : eqb h x ≡ true = grind (arith, nat_tests) in absurd (cc)))) old
    ])

pub all-given : (n x : ℕ) (owners : List (ℕ × Kind)) → all_delegated (give_all owners (granules n x) kind.Delegated) (granules n x) ≡ true
unfolding granules give_all
all-given zero x owners = refl
all-given (suc n) x owners =
    let here : is_delegated (give owners x kind.Delegated) x ≡ true = rw (kind_of-here owners x kind.Delegated) refl in
    rw (delegated-stays n (x + 4096) (give owners x kind.Delegated) x here, all-given n (x + 4096) (give owners x kind.Delegated)) refl

-- those past them are as they were
pub free-given : (n x : ℕ) (owners : List (ℕ × Kind)) (k : Kind) (h : ℕ) → x + 4096 * n ≤ h → kind_of (give_all owners (granules n x) k) h ≡ kind_of owners h
unfolding granules give_all
free-given zero x owners k h far = refl
free-given (suc n) x owners k h far = free-given n (x + 4096) (give owners x k) k h (omega arith) ∙ kind_of-other owners x h k (λ e. omega arith)

pub all-append : (p : ℕ → Bool) (xs : List ℕ) (y : ℕ) → list_all p (xs ++ y ∷ []) ≡ true → (list_all p xs ≡ true) × (p y ≡ true)
all-append p [] y h = (refl, (and_parts (p y) true h).0)
all-append p (x ∷ xs) y h =
    let both = and_parts (p x) (list_all p (xs ++ y ∷ [])) h in
    let i = all-append p xs y both.1 in
    (rw (both.0, i.0) refl, i.1)

-- ---- their commands

abbrev pub delegations : ℕ → ℕ → List Command
delegations n x = map (λ g. Delegate g) (granules n x)

pub delegate-commands : (contents : Contents) (gs : List ℕ) (rest : List Entry)
    → commands_of contents (delegate_all gs ++ rest) ≡ map (λ g. Delegate g) gs ++ commands_of contents rest
delegate-commands contents [] rest = refl
delegate-commands contents (g ∷ gs) rest = ap (λ cs. Delegate g ∷ cs) (delegate-commands contents gs rest)

-- free granules are delegated, and nothing else changes
pub record IsDelegated (n x : ℕ) (s : State) : Type 0 where
  pub accepted : accepted s (delegations n x) ≡ true
  pub shown : shown s (delegations n x) ≡ []
  pub leaves : run s (delegations n x) ≡ record s { owners = give_all s.owners (granules n x) kind.Delegated }

pub are-delegated : (n x : ℕ) (s : State) → x % 4096 ≡ 0 → ((h : ℕ) → x ≤ h → kind_of s.owners h ≡ None) → IsDelegated n x s
unfolding granules give_all accepted shown run
are-delegated zero x s at free = record { accepted = refl; shown = refl; leaves = refl }
are-delegated (suc n) x s at free =
    let s1 : State = changed s (Delegate x) in
    let first : step s (Delegate x) ≡ Ok s1 = delegate-taken s x at (free x (omega arith)) in
    let rest : IsDelegated n (x + 4096) s1 =
    are-delegated n (x + 4096) s1 (omega arith) (λ h o. kind_of-other s.owners x h kind.Delegated (λ e. omega arith) ∙ free h (omega arith)) in
    record {
      accepted = accepted-taken s s1 (Delegate x) (delegations n (x + 4096)) first ∙ rest.accepted;
      shown = shown-taken s s1 (Delegate x) (delegations n (x + 4096)) first ∙ rest.shown;
      leaves = run-taken s s1 (Delegate x) (delegations n (x + 4096)) first ∙ rest.leaves;
    }
