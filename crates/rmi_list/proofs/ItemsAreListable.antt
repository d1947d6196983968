-- The items of a launch that has its place can be listed: they are few, with few pages, and each begins in its first page.
use Rattle.std.proofs.Common.{inl, inr, ◌≡◌, ℕ, zero, suc, ◌%◌, ◌≤◌, ◌<◌, arith, true, List, [], ◌∷◌, length}
use Rattle.std.specs.Prelude.{Some, sum_by, ◌&&◌}
use Rattle.std.specs.List.{slice_get}
use Rattle.std.proofs.lemmas.Bool.{and_parts}
use Rattle.std.proofs.lemmas.Bool.Decides.{nat_tests}
use Rattle.std.proofs.lemmas.List.Sums.{sum_by-cons}
use Rattle.std.proofs.lemmas.Option.{slice_get_cases, slice_get_within}
use Rattle.rim_launch.specs.Kinds.{edits_possible, once_each}
use Rattle.rim_launch.specs.LaunchData.{LaunchData, is_launch, steps_fit, within_limits}
use Rattle.ipa_layout.specs.Layout.{IsPlaced, PlacedData}
use Rattle.ipa_layout.specs.declared.placed.PlacedItem.{PlacedItem}
use Rattle.ipa_layout.proofs.PlacedLaunchLaws.{as-many-items, few-pages, lead-is}
use Rattle.rmi_list.specs.inside.Drafts.{AreListable}
use Rattle.rmi_list.specs.Listed.{HasPlace}

-- a part of a sum is no more than the sum
part-le : (items : List PlacedItem) (n : ℕ) (i : PlacedItem) → slice_get items n ≡ Some i → i.pages ≤ sum_by (λ j. j.pages) items
part-le [] n i at = absurd (cc)
part-le (x ∷ items) zero i at = (let same : x ≡ i = cc in rw (← same) (omega (arith, sum_by-cons (λ j. j.pages) x items)))
part-le (x ∷ items) (suc n) i at = (let rest : i.pages ≤ sum_by (λ j. j.pages) items = part-le items n i at in omega (arith, sum_by-cons (λ j. j.pages) x items))

few-items : (l : LaunchData) → is_launch l ≡ true → length l.items ≤ 64
unfolding is_launch
few-items l h =
    let first : within_limits l && once_each l.items ≡ true = (and_parts _ (edits_possible l.ram l.items) ((and_parts _ (steps_fit l) h).0)).0 in
    let within : within_limits l ≡ true = (and_parts (within_limits l) (once_each l.items) first).0 in
    grind (arith, nat_tests)

pub are-listable : (l : LaunchData) (p : PlacedData) → is_launch l ≡ true → HasPlace l p → AreListable p.items
are-listable l p launch place number item at =
    let files : List (List ℕ) = place.0 in
    let placed : IsPlaced l files p = place.1 in
    let inside : number < length p.items = slice_get_within p.items number item at in
    let same : length p.items ≡ length l.items = as-many-items l files p placed in
    let few : length l.items ≤ 64 = few-items l launch in
    let total : sum_by (λ j. j.pages) p.items ≤ 1048576 = few-pages l files p placed in
    let part : item.pages ≤ sum_by (λ j. j.pages) p.items = part-le p.items number item at in
    elim (slice_get_cases l.items number).1 [
      | inl found ↦
          let lead : item.lead ≡ item.address % 4096 = lead-is l files p placed number (found.0) item (record { in_launch = found.2; placed = at }) in
          record { few = omega arith; pages = omega arith; lead = omega arith }
      | inr none ↦ absurd (omega (arith, none.0))
    ]
