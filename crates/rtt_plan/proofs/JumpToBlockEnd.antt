-- From the first page of a block the entries of a region go on at the block's end.
use Rattle.std.proofs.Common.{◌≡◌, ℕ, zero, suc, ◌+◌, ◌-◌, ◌*◌, ◌/◌, ◌<◌, sym, refl, ap, arith, true, false, eqb, List, ◌∷◌}
use Rattle.std.specs.List.{filter}
use Rattle.std.proofs.lemmas.Bool.Decides.{nat_tests}
use Rattle.rmm_model.specs.Blocks.{down, granules, size}
use Rattle.rmm_model.proofs.BlockArithmetic.{in-block}
use Rattle.rtt_plan.specs.Entries.{block_level, is_first}
use Rattle.rtt_plan.specs.Places.{IsRegion}
use Rattle.rtt_plan.proofs.LargestBlocks.{first-at, first_fit-same}

not-first_level : (n x z : ℕ) → down n x ≡ x → x < z → z / n ≡ x / n → eqb (down n z) z ≡ false
not-first_level n x z at lo same = rw same (let e : x / n * n ≡ x = at in rw e (grind (arith, nat_tests)))

-- a page that is not the first of its block is none of the entries
pub not-first : (base end least_level x z : ℕ) → is_first base end least_level x ≡ true → x < z → z < x + size (block_level base end least_level x) → is_first base end least_level z ≡ false
not-first base end least_level x z first lo hi =
    let at : down (size (block_level base end least_level x)) x ≡ x = first-at base end least_level x first in
    let same : z / size (block_level base end least_level x) ≡ x / size (block_level base end least_level x) = in-block (size (block_level base end least_level x)) x z (omega arith) (omega arith) in
    let level : block_level base end least_level z ≡ block_level base end least_level x = first_fit-same base end (3 - least_level) least_level x z (sym same) in
    rw level (not-first_level (size (block_level base end least_level x)) x z at lo same)

pub skip : (base end least_level q r y : ℕ) → ((k : ℕ) → k < q → is_first base end least_level (y + 4096 * k) ≡ false) → filter (is_first base end least_level) (granules (q + r) y) ≡ filter (is_first base end least_level) (granules r (y + 4096 * q))
unfolding granules
skip base end least_level zero r y none =
    let e : 0 + r ≡ r = omega arith in
    let f : y + 4096 * 0 ≡ y = omega arith in
    rw (e, f) refl
skip base end least_level (suc q) r y none =
    let e : suc q + r ≡ suc (q + r) = omega arith in
    let z : y + 4096 * 0 ≡ y = omega arith in
    let n : is_first base end least_level y ≡ false = rw z at (none 0 (omega arith)) in
    let g : y + 4096 * suc q ≡ (y + 4096) + 4096 * q = omega arith in
    let i : filter (is_first base end least_level) (granules (q + r) (y + 4096)) ≡ filter (is_first base end least_level) (granules r ((y + 4096) + 4096 * q)) =
    skip base end least_level q r (y + 4096) (λ k h.
    let s : (y + 4096) + 4096 * k ≡ y + 4096 * suc k = omega arith in
    rw s (none (suc k) (omega arith))) in
    rw (e, g) (rw n i)

-- THE JUMP: from the first page of a block the entries go on at the block's end
pub entries-jump : (base end least_level q r x : ℕ) → is_first base end least_level x ≡ true → size (block_level base end least_level x) ≡ 4096 * suc q
    → filter (is_first base end least_level) (granules (suc q + r) x) ≡ x ∷ filter (is_first base end least_level) (granules r (x + size (block_level base end least_level x)))
unfolding granules
entries-jump base end least_level q r x first s =
    let e : suc q + r ≡ suc (q + r) = omega arith in
    let g : x + size (block_level base end least_level x) ≡ (x + 4096) + 4096 * q = omega arith in
    let i : filter (is_first base end least_level) (granules (q + r) (x + 4096)) ≡ filter (is_first base end least_level) (granules r ((x + 4096) + 4096 * q)) =
    skip base end least_level q r (x + 4096) (λ k h. not-first base end least_level x ((x + 4096) + 4096 * k) first (omega arith) (omega arith)) in
    rw (e, g) (rw first (ap (λ (l : List ℕ). x ∷ l) i))

pub whole-pages : (base end : ℕ) → IsRegion base end → base < end → base + 4096 * ((end - base) / 4096) ≡ end
unfolding size
whole-pages base end region some =
    let b : base / 4096 * 4096 ≡ base = region.base_at in
    let e : end / 4096 * 4096 ≡ end = region.end_at in
    omega arith
