-- Several granules are given a kind one after another.
use Rattle.std.proofs.Common.{inl, inr, ◌≡◌, ℕ, ◌+◌, ◌<◌, ◌≤◌, refl, arith, true, List, [], ◌∷◌, length, drop, get_or, eqb, add-one}
use Rattle.std.specs.Prelude.{Option, Some, None, is_some}
use Rattle.std.proofs.Math.Seq.{drop-cons}
use Rattle.std.proofs.Math.ListN.{drop_of_length-le}
use Rattle.std.proofs.lemmas.Bool.Decides.{nat_tests}
use Rattle.rmm_model.specs.declared.outcome.Kind.{Kind}
use Rattle.rmm_model.specs.Owners.{all_delegated, give, give_all, is_delegated, is_delegated_kind, kind_of}
use Rattle.rmm_model.proofs.KindsAfterGifts.{kind_of-here, kind_of-other}
use Rattle.std.proofs.lemmas.Bool.{and_parts, cases_Bool, eqb-true}
use Rattle.rmm_monitor.specs.inside.Owned.{all_owned}

-- a granule that has a kind has one whatever is given
owned-give : (owners : List (ℕ × Kind)) (g h : ℕ) (kind : Kind) → is_some (kind_of owners h) ≡ true → is_some (kind_of (give owners g kind) h) ≡ true
owned-give owners g h kind own = elim (cases_Bool (eqb h g)) [
  | inl e ↦ (let same : h ≡ g = eqb-true h g e in let there = kind_of-here owners g kind in rw (same, there) refl)
  | inr n ↦ (let other = kind_of-other owners g h kind (λ e. (let t : eqb h g ≡ true = grind (arith, nat_tests) in absurd (cc))) in rw other own)
]

pub all_owned-give : (owners : List (ℕ × Kind)) (g : ℕ) (kind : Kind) (gs : List ℕ) → all_owned owners gs ≡ true → all_owned (give owners g kind) gs ≡ true
all_owned-give owners g kind [] own = refl
all_owned-give owners g kind (h ∷ gs) own =
    let parts = and_parts (is_some (kind_of owners h)) (all_owned owners gs) own in
    rw (owned-give owners g h kind (parts.0)) (all_owned-give owners g kind gs (parts.1))

some-delegated : (kind : Option Kind) → is_delegated_kind kind ≡ true → is_some kind ≡ true
some-delegated None h = absurd (cc)
some-delegated (Some kind) h = refl

-- granules that are DELEGATED have a kind
pub owned_from_delegated : (owners : List (ℕ × Kind)) (gs : List ℕ) → all_delegated owners gs ≡ true → all_owned owners gs ≡ true
owned_from_delegated owners [] own = refl
owned_from_delegated owners (g ∷ gs) own =
    let parts = and_parts (is_delegated owners g) (all_delegated owners gs) own in
    rw (some-delegated (kind_of owners g) (parts.0)) (owned_from_delegated owners gs (parts.1))

-- one granule of the list, from a place on
pub all_owned-next : (owners : List (ℕ × Kind)) (gs : List ℕ) (i : ℕ) → i < length gs → all_owned owners (drop i gs) ≡ true
    → (is_some (kind_of owners (get_or gs i 0)) ≡ true) × (all_owned owners (drop (i + 1) gs) ≡ true)
all_owned-next owners gs i lt own =
    let more : drop i gs ≡ get_or gs i 0 ∷ drop (i + 1) gs = rw (add-one) (drop-cons gs i 0 lt) in
    and_parts _ _ (rw more at own)

pub give_all-next : (owners : List (ℕ × Kind)) (kind : Kind) (gs : List ℕ) (i : ℕ) → i < length gs
    → give_all owners (drop i gs) kind ≡ give_all (give owners (get_or gs i 0) kind) (drop (i + 1) gs) kind
unfolding give_all
give_all-next owners kind gs i lt = rw (add-one, drop-cons gs i 0 lt) refl

pub give_all-end : (owners : List (ℕ × Kind)) (kind : Kind) (gs : List ℕ) (i : ℕ) → length gs ≤ i → give_all owners (drop i gs) kind ≡ owners
unfolding give_all
give_all-end owners kind gs i past = rw (drop_of_length-le gs past) refl
