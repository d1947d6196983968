-- The entries of a region, each from the end of the block of the one before it.
use Rattle.std.proofs.Common.{◌≡◌, ℕ, suc, ◌+◌, ◌-◌, ◌*◌, ◌/◌, ◌<◌, ◌≤◌, ◌∙◌, sym, refl, ap, arith, [], ◌∷◌, length}
use Rattle.std.specs.List.{filter}
use Rattle.std.proofs.Math.Nat.{mul-div_cancel}
use Rattle.rmm_model.specs.Blocks.{down, granules, size}
use Rattle.rmm_model.proofs.BlockArithmetic.{size-pos}
use Rattle.rtt_plan.specs.Entries.{block_level, entries_from, is_first}
use Rattle.rtt_plan.specs.Places.{AtEntry, IsRegion}
use Rattle.rtt_plan.proofs.LargestBlocks.{base-first, block-fits, first-at, first_fit-to, fits-low, next-first}
use Rattle.rtt_plan.proofs.JumpToBlockEnd.{entries-jump, whole-pages}
use Rattle.rtt_plan.proofs.RoundingToBlocks.{down-next, down-size, size-pages}

pub at-base : (base end least_level : ℕ) → IsRegion base end → least_level ≤ 3 → base < end → AtEntry base end least_level base
at-base base end least_level region low some = record {
  page = region.base_at;
  low = omega arith;
  high = omega arith;
  first = λ h. base-first base end least_level region low some;
}

-- the block at an entry lies in the region
pub entry-fits : (base end least_level x : ℕ) → IsRegion base end → least_level ≤ 3 → AtEntry base end least_level x → x < end
    → x + size (block_level base end least_level x) ≤ end
entry-fits base end least_level x region low at some =
    let m : ℕ = block_level base end least_level x in
    let first : down (size m) x ≡ x = first-at base end least_level x (at.first some) in
    let inside = fits-low base end m x (block-fits base end least_level x region low at.low some) in
    let top : down (size m) x + size m ≤ end = inside.1 in
    omega arith

pub at-next : (base end least_level x : ℕ) → IsRegion base end → least_level ≤ 3 → AtEntry base end least_level x → x < end
    → AtEntry base end least_level (x + size (block_level base end least_level x))
at-next base end least_level x region low at some =
    let m : ℕ = block_level base end least_level x in
    let first : down (size m) x ≡ x = first-at base end least_level x (at.first some) in
    let deep : m ≤ least_level + (3 - least_level) = first_fit-to base end (3 - least_level) least_level x in
    let aligned : down (size m) (x + size m) ≡ x + size m = down-next (size m) x (size-pos m) first in
    let begin : base ≤ x = at.low in
    record {
      page = down-size m 3 (x + size m) (omega arith) aligned;
      low = omega arith;
      high = entry-fits base end least_level x region low at some;
      first = λ h. next-first base end least_level x region low at.low (at.first some) h;
    }

pages-between : (x y n : ℕ) → x + 4096 * n ≡ y → (y - x) / 4096 ≡ n
pages-between x y n e = let f : y - x ≡ n * 4096 = omega arith in let p : 0 < 4096 = omega arith in rw f (mul-div_cancel n p)

-- the entries from an entry on: it, and those from its block's end on
pub entries-next : (base end least_level x : ℕ) → IsRegion base end → least_level ≤ 3 → AtEntry base end least_level x → x < end
    → entries_from base end least_level x ≡ x ∷ entries_from base end least_level (x + size (block_level base end least_level x))
entries-next base end least_level x region low at some =
    let m : ℕ = block_level base end least_level x in
    let here : IsRegion x end = record { base_at = at.page; end_at = region.end_at } in
    let n : ℕ = (end - x) / 4096 in
    let whole : x + 4096 * n ≡ end = whole-pages x end here some in
    let top : x + size m ≤ end = entry-fits base end least_level x region low at some in
    let q : (q : ℕ) × (size m ≡ 4096 * suc q) = size-pages m in
    let qe : size m ≡ 4096 * suc (q.0) = q.1 in
    let r : ℕ = n - suc (q.0) in
    let split : n ≡ suc (q.0) + r = omega arith in
    let left : (end - (x + size m)) / 4096 ≡ r = pages-between (x + size m) end r (omega arith) in
    ap (λ k. filter (is_first base end least_level) (granules k x)) split
    ∙ entries-jump base end least_level (q.0) r x (at.first some) qe
    ∙ ap (λ k. x ∷ filter (is_first base end least_level) (granules k (x + size m))) (sym left)

pub entries-end : (base end least_level x : ℕ) → end ≤ x → entries_from base end least_level x ≡ []
unfolding granules
entries-end base end least_level x h = let e : (end - x) / 4096 ≡ 0 = (let f : end - x ≡ 0 = omega arith in rw f refl) in rw e refl

pub count-end : (base end least_level x : ℕ) → end ≤ x → length (entries_from base end least_level x) ≡ 0
count-end base end least_level x h = ap length (entries-end base end least_level x h)
