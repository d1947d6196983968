-- The runs of a region follow one another from its base to its end, each in one table, and their blocks are
-- the region's entries.
use Rattle.std.proofs.Common.{inl, inr, ◌≡◌, ℕ, zero, suc, ◌+◌, ◌-◌, ◌/◌, ◌<◌, ◌≤◌, ◌∙◌, sym, refl, ap, arith, ◌&&◌, leb, ltb, eqb, List, [], ◌∷◌, map}
use Rattle.std.proofs.lemmas.Bool.{cases_Bool}
use Rattle.std.proofs.lemmas.Bool.Decides.{nat_tests}
use Rattle.std.proofs.Math.Nat.{add-div_right, div_self, eq-or-lt_of_le}
use Rattle.rmm_model.specs.Blocks.{down, size, span, stretches}
use Rattle.rmm_model.specs.Space.{is_ram}
use Rattle.rmm_model.proofs.BlockArithmetic.{down-lt, down-same, size-pos, span-pos}
use Rattle.rtt_plan.specs.Entries.{block_level, entries, entries_from}
use Rattle.rtt_plan.specs.Places.{AtEntry, IsRegion}
use Rattle.rtt_plan.specs.Following.{AreRuns, IsRun, block_of, blocks_of, ranges_of}
use Rattle.rtt_plan.specs.Runs.{group, put, runs_from, runs_of}
use Rattle.rtt_plan.specs.declared.run.Run.{Run}
use Rattle.rtt_plan.proofs.LargestBlocks.{first-at, first_fit-from, first_fit-to}
use Rattle.rtt_plan.proofs.GrowingRuns.{runs-next}
use Rattle.rtt_plan.proofs.RoundingToBlocks.{down-next, down-part, down-top, multiple-down}
use Rattle.rtt_plan.proofs.EntryByEntry.{at-base, at-next, entries-end, entries-next, entry-fits}

-- ---- one entry

pub entry-in-table : (l x : ℕ) → down (size l) x ≡ x → x + size l ≤ down (span l) x + span l
entry-in-table l x at =
    let p : 0 < size l = size-pos l in
    let ps : 0 < span l = span-pos l in
    let multiple : down (span l) (down (span l) x + span l) ≡ down (span l) x + span l = down-next (span l) (down (span l) x) ps (multiple-down (span l) (x / span l) x ps) in
    let part : down (size l) (down (span l) x + span l) ≡ down (span l) x + span l = down-part (size l) 512 (down (span l) x + span l) p multiple in
    let lt : x < down (span l) x + span l = down-lt (span l) x ps in
    let d : down (size l) x + size l ≤ down (span l) x + span l = down-top (size l) x (down (span l) x + span l) p part lt in
    omega arith

single : (least_level l x : ℕ) → least_level ≤ l → l ≤ 3 → down (size l) x ≡ x → IsRun least_level (record { base = x; top = x + size l; level = l })
single least_level l x o deep at = record {
  allowed = o;
  deepest = deep;
  some = omega (arith, size-pos l);
  base_at = at;
  top_at = down-next (size l) x (size-pos l) at;
  in_table = entry-in-table l x at;
}

-- ---- an entry in front of runs

put-runs : (least_level l x end : ℕ) (rs : List Run) → least_level ≤ l → l ≤ 3 → down (size l) x ≡ x → x + size l ≤ end
    → AreRuns least_level (x + size l) end rs → AreRuns least_level x end (put l x rs)
unfolding AreRuns
put-runs least_level l x end [] o deep at le runs = (single least_level l x o deep at, refl, le, runs)
put-runs least_level l x end (r ∷ rs) o deep at le runs =
    elim (cases_Bool (eqb r.level l && eqb (r.base / span l) (x / span l))) [
      | inr f ↦ rw f (single least_level l x o deep at, refl, le, runs)
      | inl t ↦ rw t
          (let run : IsRun least_level r = runs.0 in
          let e : r.level ≡ l = grind (arith, nat_tests) in
          let s : r.base / span l ≡ x / span l = grind (arith, nat_tests) in
          let b : r.base ≡ x + size l = runs.1 in
          let some : r.base < r.top = run.some in
          let p : 0 < size l = size-pos l in
          let first : IsRun least_level (record { base = x; top = r.top; level = l }) = record {
            allowed = o;
            deepest = deep;
            some = omega arith;
            base_at = at;
            top_at = rw e at run.top_at;
            in_table = (let w : r.top ≤ down (span l) r.base + span l = rw e at run.in_table in
                let d : down (span l) r.base ≡ down (span l) x = down-same (span l) r.base x s in omega arith);
          } in
          (first, refl, runs.2, runs.3))
    ]

one : (s x : ℕ) → 0 < s → (x + s - x) / s ≡ 1
one s x p = let e : x + s - x ≡ s = omega arith in rw e (div_self p)

one-more : (s x b t : ℕ) → 0 < s → b ≡ x + s → b ≤ t → (t - x) / s ≡ suc ((t - b) / s)
one-more s x b t p e o = let f : t - x ≡ (t - b) + s = omega arith in omega (arith, ap (λ (z : ℕ). z / s) f, add-div_right (t - b) p)

put-blocks : (least_level l x end : ℕ) (rs : List Run) → AreRuns least_level (x + size l) end rs → blocks_of (put l x rs) ≡ (x, x + size l) ∷ blocks_of rs
unfolding blocks_of stretches AreRuns
put-blocks least_level l x end [] runs =
    let e : (x + size l - x) / size l ≡ 1 = one (size l) x (size-pos l) in rw e refl
put-blocks least_level l x end (r ∷ rs) runs =
    elim (cases_Bool (eqb r.level l && eqb (r.base / span l) (x / span l))) [
      | inr f ↦ rw f (let e : (x + size l - x) / size l ≡ 1 = one (size l) x (size-pos l) in rw e refl)
      | inl t ↦ rw t
          (let run : IsRun least_level r = runs.0 in
          let some : r.base < r.top = run.some in
          let e : r.level ≡ l = grind (arith, nat_tests) in
          let b : r.base ≡ x + size l = runs.1 in
          let n : (r.top - x) / size l ≡ suc ((r.top - r.base) / size l) = one-more (size l) x r.base r.top (size-pos l) b (omega arith) in
          rw (e, n, b) refl)
    ]

-- ---- the runs of a region, from an entry on

record Follow (start base end least_level x : ℕ) : Type 0 where
  runs : AreRuns start x end (runs_from base end least_level x)
  blocks : blocks_of (runs_from base end least_level x) ≡ map (block_of base end least_level) (entries_from base end least_level x)

at-end : (start base end least_level x : ℕ) → x ≡ end → Follow start base end least_level x
unfolding AreRuns blocks_of group
at-end start base end least_level x e = let none = entries-end base end least_level x (omega arith) in record { runs = rw none e; blocks = rw none refl }

at-entry : (start base end least_level x : ℕ) → start ≤ least_level → IsRegion base end → least_level ≤ 3 → AtEntry base end least_level x → x < end
    → Follow start base end least_level (x + size (block_level base end least_level x)) → Follow start base end least_level x
at-entry start base end least_level x o region low at some next =
    let m : ℕ = block_level base end least_level x in
    let from : least_level ≤ m = first_fit-from base end (3 - least_level) least_level x in
    let to : m ≤ least_level + (3 - least_level) = first_fit-to base end (3 - least_level) least_level x in
    let here : down (size m) x ≡ x = first-at base end least_level x (at.first some) in
    let rest : List Run = runs_from base end least_level (x + size m) in
    let split : runs_from base end least_level x ≡ put m x rest = runs-next base end least_level x region low at some in
    let first : entries_from base end least_level x ≡ x ∷ entries_from base end least_level (x + size m) = entries-next base end least_level x region low at some in
    record {
      runs = rw split (put-runs start m x end rest (omega arith) (omega arith) here (entry-fits base end least_level x region low at some) next.runs);
      blocks = ap blocks_of split ∙ (put-blocks start m x end rest next.runs
          ∙ (ap (λ ys. (x, x + size m) ∷ ys) next.blocks ∙ sym (ap (map (block_of base end least_level)) first)));
    }

follow-from : (start base end least_level fuel x : ℕ) → start ≤ least_level → IsRegion base end → least_level ≤ 3 → AtEntry base end least_level x → end ≤ x + fuel
    → Follow start base end least_level x
follow-from start base end least_level zero x o region low at room = at-end start base end least_level x (let h : x ≤ end = at.high in omega arith)
follow-from start base end least_level (suc fuel) x o region low at room =
    elim (eq-or-lt_of_le at.high) [
      | inl e ↦ at-end start base end least_level x e
      | inr some ↦
          let p : 0 < size (block_level base end least_level x) = size-pos (block_level base end least_level x) in
          at-entry start base end least_level x o region low at some
          (follow-from start base end least_level fuel (x + size (block_level base end least_level x)) o region low (at-next base end least_level x region low at some) (omega arith))
    ]

follow : (start base end least_level : ℕ) → start ≤ least_level → IsRegion base end → least_level ≤ 3 → base < end → Follow start base end least_level base
follow start base end least_level o region low some = follow-from start base end least_level end base o region low (at-base base end least_level region low some) (omega arith)

pub region-runs : (start base end least_level : ℕ) → start ≤ least_level → IsRegion base end → least_level ≤ 3 → base < end → AreRuns start base end (runs_of base end least_level)
region-runs start base end least_level o region low some = (follow start base end least_level o region low some).runs

pub region-blocks : (base end least_level : ℕ) → IsRegion base end → least_level ≤ 3 → base < end
    → blocks_of (runs_of base end least_level) ≡ map (block_of base end least_level) (entries base end least_level)
region-blocks base end least_level region low some = (follow least_level base end least_level (omega arith) region low some).blocks

-- the blocks of the runs from an entry on are those of the entries from it on
pub blocks-from : (base end least_level x : ℕ) → IsRegion base end → least_level ≤ 3 → AtEntry base end least_level x
    → blocks_of (runs_from base end least_level x) ≡ map (block_of base end least_level) (entries_from base end least_level x)
blocks-from base end least_level x region low at = (follow-from least_level base end least_level end x (omega arith) region low at (omega arith)).blocks

-- ---- what runs make RAM

-- the addresses of runs that follow one another are those from the first base to the last top
pub ram-runs : (least_level x end : ℕ) (rs : List Run) → AreRuns least_level x end rs → (y : ℕ) → is_ram (ranges_of rs) y ≡ (leb x y && ltb y end)
unfolding AreRuns
ram-runs least_level x end [] runs y = grind (arith, nat_tests)
ram-runs least_level x end (r ∷ rs) runs y =
    let run : IsRun least_level r = runs.0 in
    let some : r.base < r.top = run.some in
    let at : r.base ≡ x = runs.1 in
    let le : r.top ≤ end = runs.2 in
    let i : is_ram (ranges_of rs) y ≡ (leb r.top y && ltb y end) = ram-runs least_level r.top end rs (runs.3) y in
    rw (i, at) (grind (arith, nat_tests))
