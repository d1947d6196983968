-- A table that is filled to a slot, and then has that slot filled, is filled to the next one.
use Rattle.std.proofs.Common.{◌≡◌, ℕ, ◌+◌, ◌<◌, ◌∙◌, inl, inr, true, List, [], ◌∷◌, length, refl, ap, sym, subst, arith, zero, suc}
use Rattle.std.specs.Prelude.{Option, Some, None, is_some, slice_set}
use Rattle.std.specs.List.{slice_get}
use Rattle.std.specs.Option.{option_and_then}
use Rattle.std.proofs.lemmas.Bool.{cases_lt}
use Rattle.std.proofs.lemmas.Option.{slice_get_within}
use Rattle.rim_desc.specs.declared.measurement.Measurement.{Measurement}
use Rattle.page_jobs.specs.Page.{PageView}
use Rattle.page_jobs.specs.Table.{CanFill, TableView, with_digest}
use Rattle.rim_report.specs.inside.Filled.{IsFilledTo}

set-here : {X : Type 0} (xs : List X) (i : ℕ) (x : X) → i < length xs → slice_get (slice_set xs i x) i ≡ Some x
set-here [] i x inside = absurd (omega arith)
set-here (y ∷ ys) zero x inside = refl
set-here (y ∷ ys) (suc i) x inside = set-here ys i x (omega arith)

set-there : {X : Type 0} (xs : List X) (i j : ℕ) (x : X) → (j ≡ i → ⊥) → slice_get (slice_set xs i x) j ≡ slice_get xs j
set-there [] i j x other = refl
set-there (y ∷ ys) zero zero x other = absurd (other refl)
set-there (y ∷ ys) zero (suc j) x other = refl
set-there (y ∷ ys) (suc i) zero x other = refl
set-there (y ∷ ys) (suc i) (suc j) x other = set-there ys i j x (λ same. other (ap suc same))

-- a slot more is filled
pub filled-next : (old new : TableView) (slot : ℕ) (p : PageView) (m : Measurement) → IsFilledTo old slot → CanFill old slot p
    → new ≡ with_digest old slot m → IsFilledTo new (slot + 1)
filled-next old new slot p m so_far can is = subst (λ (t : TableView). IsFilledTo t (slot + 1)) (sym is) (record {
  filled = λ j low. elim (cases_lt j slot) [
    | inl before ↦
        ap (λ (o : Option (Option Measurement)). is_some (option_and_then (λ d. d) o))
        (set-there old.digests slot j (Some m) (λ same. absurd (omega (arith, same, before)))) ∙ so_far.filled j before
    | inr after ↦ (let same : slot ≡ j = omega (arith, low, after) in
        subst (λ (k : ℕ). is_some (option_and_then (λ d. d) (slice_get (slice_set old.digests slot (Some m)) k)) ≡ true) same
        (ap (λ (o : Option (Option Measurement)). is_some (option_and_then (λ d. d) o))
        (set-here old.digests slot (Some m) (slice_get_within old.digests slot None can.1))))
  ];
  empty = λ j low high. set-there old.digests slot j (Some m) (λ same. absurd (omega (arith, same, low))) ∙ so_far.empty j (omega (arith, low)) high;
})
