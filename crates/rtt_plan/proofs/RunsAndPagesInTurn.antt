-- The runs of a region can be set, and pages can get data, one after another.
use Rattle.std.proofs.Common.{inl, inr, ◌≡◌, ℕ, zero, suc, ◌+◌, ◌-◌, ◌<◌, ◌≤◌, refl, arith, true, false, eqb, List, [], ◌∷◌, ◌++◌}
use Rattle.std.specs.List.{list_all, list_any}
use Rattle.std.proofs.lemmas.Bool.{and_parts, or_parts}
use Rattle.std.proofs.lemmas.Bool.Decides.{nat_tests}
use Rattle.rmm_model.specs.Blocks.{down, granules, size}
use Rattle.rmm_model.specs.Space.{has, is_ram, made, overlaps}
use Rattle.rmm_model.specs.declared.table.Table.{Table}
use Rattle.rmm_model.proofs.BlockArithmetic.{down-le, down-lt, down-same, size-pos}
use Rattle.rmm_model.proofs.RangesOfRam.{no-ram, overlaps-next, overlaps-part, ram-there}
use Rattle.rmm_model.proofs.SameSpaces.{deeper-none}
use Rattle.rtt_plan.specs.declared.run.Run.{Run}
use Rattle.rtt_plan.specs.Agreement.{IsFormed, IsFresh, IsUsed}
use Rattle.rtt_plan.specs.InTurn.{AreFilledInTurn, AreSetInTurn, CanBeSet, CanGetData}
use Rattle.rtt_plan.specs.Places.{IsRegion}
use Rattle.rtt_plan.specs.Following.{AreRuns, IsRun}
use Rattle.rtt_plan.specs.Runs.{runs_of}
use Rattle.rtt_plan.specs.Missing.{missing}
use Rattle.rtt_plan.proofs.WithMissingTables.{formed-after, made-missing, none-inside, used-after, used-more, walk-fresh, walk-page}
use Rattle.rtt_plan.proofs.RunsCoverRegion.{region-runs}
use Rattle.rtt_plan.proofs.MissingTablesInTurn.{missing-in-turn}
use Rattle.rtt_plan.proofs.RoundingToBlocks.{down-top, le-down}

-- ---- runs

-- nothing of a block is RAM, where nothing of a range of whole blocks that has it is
pub fresh-block : (rs : List (ℕ × ℕ)) (l base top b : ℕ) → down (size l) base ≡ base → down (size l) top ≡ top → overlaps rs base top ≡ false
    → base ≤ b → b < top → IsFresh rs l b
fresh-block rs l base top b at to free lo hi = λ y e.
    let p : 0 < size l = size-pos l in
    let same : down (size l) y ≡ down (size l) b = down-same (size l) y b e in
    let low : base ≤ down (size l) b = le-down (size l) base b p at lo in
    let high : down (size l) b + size l ≤ top = down-top (size l) b top p to hi in
    let le : down (size l) y ≤ y = down-le (size l) y in
    let lt : y < down (size l) y + size l = down-lt (size l) y p in
    no-ram rs base top y free (omega arith) (omega arith)

pub none-in-run : (start : ℕ) (ts : List Table) (ram : List (ℕ × ℕ)) (r : Run) → IsFormed start ts → IsUsed ts ram → IsRun start r → overlaps ram r.base r.top ≡ false
    → (j b : ℕ) → made (ts ++ missing start ts r.level r.base) j b ≡ true → r.level < j → r.base ≤ b → b < r.top → ⊥
none-in-run start ts ram r formed used run free j b m o lo hi =
    elim (made-missing start ts r.level r.base j b m) [
      | inl w ↦ none-inside start r.level b ts ram formed used (fresh-block ram r.level r.base r.top b run.base_at run.top_at free lo hi) j b w o refl
      | inr w ↦ (let from : start ≤ r.level = run.allowed in let g : j ≤ start + (r.level - start) = w.1 in absurd (omega arith))
    ]

pub run-can : (start : ℕ) (ts : List Table) (ram : List (ℕ × ℕ)) (r : Run) → IsFormed start ts → IsUsed ts ram → IsRun start r → overlaps ram r.base r.top ≡ false
    → CanBeSet start (ts ++ missing start ts r.level r.base) ram r
run-can start ts ram r formed used run free =
    let some : r.base < r.top = run.some in
    record {
      ends = walk-fresh start r.level r.base ts ram run.allowed run.deepest formed used (fresh-block ram r.level r.base r.top r.base run.base_at run.top_at free (omega arith) some);
      free = free;
      none_deeper = deeper-none (ts ++ missing start ts r.level r.base) r.level r.base r.top (none-in-run start ts ram r formed used run free);
    }

pub runs-in-turn : (start end : ℕ) (rs : List Run) (x : ℕ) (ts : List Table) (ram : List (ℕ × ℕ)) → AreRuns start x end rs
    → IsFormed start ts → IsUsed ts ram → overlaps ram x end ≡ false → AreSetInTurn start ts ram rs
unfolding AreRuns AreSetInTurn
runs-in-turn start end [] x ts ram runs formed used free = tt
runs-in-turn start end (r ∷ rs) x ts ram runs formed used free =
    let run : IsRun start r = runs.0 in
    let some : r.base < r.top = run.some in
    let at : r.base ≡ x = runs.1 in
    let le : r.top ≤ end = runs.2 in
    let here : overlaps ram r.base r.top ≡ false = overlaps-part ram x end r.base r.top free (omega arith) le in
    let rest : overlaps ((r.base, r.top) ∷ ram) r.top end ≡ false = overlaps-next (r.base, r.top) ram r.top end (overlaps-part ram x end r.top end free (omega arith) (omega arith)) (omega arith) in
    let more : IsUsed ts ((r.base, r.top) ∷ ram) = used-more ts ram ((r.base, r.top) ∷ ram) used (λ y h. ram-there (r.base, r.top) ram y h) in
    let begins : is_ram ((r.base, r.top) ∷ ram) r.base ≡ true = grind (arith, nat_tests) in (
      missing-in-turn start r.level r.base ts run.deepest formed,
      run-can start ts ram r formed used run here,
      runs-in-turn start end rs r.top (ts ++ missing start ts r.level r.base) ((r.base, r.top) ∷ ram) (runs.3)
          (formed-after start r.level r.base ts run.deepest formed)
          (used-after start r.level r.base ts ((r.base, r.top) ∷ ram) more begins) rest,
    )

pub region-in-turn : (start base end least_level : ℕ) (ts : List Table) (ram : List (ℕ × ℕ)) → start ≤ least_level → least_level ≤ 3 → base < end → IsRegion base end
    → IsFormed start ts → IsUsed ts ram → overlaps ram base end ≡ false → AreSetInTurn start ts ram (runs_of base end least_level)
region-in-turn start base end least_level ts ram o low some region formed used free =
    runs-in-turn start end (runs_of base end least_level) base ts ram (region-runs start base end least_level o region low some) formed used free

-- ---- pages of data

-- pages after x have no data where they had none
pub free-after : (assigned : List ℕ) (x n y : ℕ) → x < y → list_any (has assigned) (granules n y) ≡ false → list_any (has (x ∷ assigned)) (granules n y) ≡ false
unfolding granules
free-after assigned x zero y lo none = refl
free-after assigned x (suc n) y lo none =
    let parts = or_parts (has assigned y) (list_any (has assigned) (granules n (y + 4096))) none in
    let i : list_any (has (x ∷ assigned)) (granules n (y + 4096)) ≡ false = free-after assigned x n (y + 4096) (omega arith) parts.1 in
    let e : eqb x y ≡ false = grind (arith, nat_tests) in
    rw (e, parts.0, i) refl

pub pages-in-turn : (n start x : ℕ) (ts : List Table) (ram : List (ℕ × ℕ)) (assigned : List ℕ) → start < 3 → IsFormed start ts
    → list_all (is_ram ram) (granules n x) ≡ true → list_any (has assigned) (granules n x) ≡ false → AreFilledInTurn start ts ram assigned (granules n x)
unfolding granules AreFilledInTurn
pages-in-turn zero start x ts ram assigned low formed all none = tt
pages-in-turn (suc n) start x ts ram assigned low formed all none =
    let in_ram = and_parts (is_ram ram x) (list_all (is_ram ram) (granules n (x + 4096))) all in
    let free = or_parts (has assigned x) (list_any (has assigned) (granules n (x + 4096))) none in
    let page : CanGetData start (ts ++ missing start ts 3 x) ram assigned x = record { ends = walk-page start x ts low formed; in_ram = in_ram.0; free = free.0 } in (
      missing-in-turn start 3 x ts (omega arith) formed,
      page,
      pages-in-turn n start (x + 4096) (ts ++ missing start ts 3 x) ram (x ∷ assigned) low (formed-after start 3 x ts (omega arith) formed)
          in_ram.1 (free-after assigned x n (x + 4096) (omega arith) free.1),
    )
