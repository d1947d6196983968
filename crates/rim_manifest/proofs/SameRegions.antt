-- Regions of the same addresses are the same, and what a pair of addresses reads as.
use Rattle.std.proofs.Common.{◌≡◌, ℕ, ◌<◌, ◌^◌, Bool, true, false, refl, sym, ◌∙◌, true≢false}
use Rattle.std.specs.Prelude.{nat_lt}
use Rattle.std.specs.Coded.{le_prop}
use Rattle.std.proofs.lemmas.Bool.{and_parts, lt-ltb, ltb-true}
use mathlib.Core.HLevel.{is_prop→PathP}
use Rattle.rim_launch.specs.declared.item.Region.{Region}
use Rattle.rim_rules.specs.Forms.{is_region}
use Rattle.rim_manifest.specs.Launches.{region_of}
use Rattle.rim_rules.specs.inside.NumberRanges.{region_if}

same_region : (a b : Region) → a.base ≡ b.base → a.end ≡ b.end → a ≡ b
same_region a b base end = λ i. record {
  base = base i;
  end = end i;
  ordered = is_prop→PathP (λ j. base j < end j) (λ j. le_prop) a.ordered b.ordered i;
  low = is_prop→PathP (λ j. end j < 2 ^ 63) (λ j. le_prop) a.low b.low i;
}

taken : (base end : ℕ) (b : Bool) (e : is_region base end ≡ b) → b ≡ true → ((region_if base end b e).base ≡ base) × ((region_if base end b e).end ≡ end)
unfolding region_if
taken base end true e h = (refl, refl)
taken base end false e h = absurd (true≢false (sym h))

left : (base end : ℕ) (b : Bool) (e : is_region base end ≡ b) → b ≡ false → ((region_if base end b e).base ≡ 0) × ((region_if base end b e).end ≡ 1)
unfolding region_if
left base end true e h = absurd (true≢false h)
left base end false e h = (refl, refl)

pub reads_as : (base end : ℕ) → is_region base end ≡ true → ((region_of base end).base ≡ base) × ((region_of base end).end ≡ end)
unfolding region_of
reads_as base end h = taken base end (is_region base end) refl h

pub region_is : (base end : ℕ) (r : Region) → r.base ≡ base → r.end ≡ end → r ≡ region_of base end
region_is base end r b e =
    let low : is_region base end ≡ true = rw (← b, ← e, lt-ltb _ _ r.ordered, lt-ltb _ _ r.low) refl in
    let parts = reads_as base end low in
    same_region r (region_of base end) (b ∙ sym parts.0) (e ∙ sym parts.1)

pub region_is_not : (base end : ℕ) (r : Region) → (((base < end) × (end < 2 ^ 63)) → ⊥) → r.base ≡ 0 → r.end ≡ 1 → r ≡ region_of base end
unfolding region_of
region_is_not base end r not b e = go (is_region base end) refl
  where
    go : (t : Bool) → is_region base end ≡ t → r ≡ region_of base end
    go true h = let parts = and_parts (nat_lt base end) (nat_lt end (2 ^ 63)) h in absurd (not (ltb-true _ _ parts.0, ltb-true _ _ parts.1))
    go false h =
        let parts = left base end (is_region base end) refl h in
        same_region r (region_of base end) (b ∙ sym parts.0) (e ∙ sym parts.1)
