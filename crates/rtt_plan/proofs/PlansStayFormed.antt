-- What each plan keeps: its tables are formed and used.
use Rattle.std.proofs.Common.{◌≡◌, ℕ, ◌<◌, ◌≤◌, refl, arith, true, List, [], ◌∷◌, ◌++◌}
use Rattle.std.proofs.Math.Bool.{or-true}
use Rattle.std.proofs.lemmas.Bool.{and_parts}
use Rattle.std.proofs.lemmas.Bool.Decides.{nat_tests}
use Rattle.std.specs.List.{list_all}
use Rattle.rmm_model.specs.Blocks.{granules}
use Rattle.rmm_model.specs.Space.{ArePlaced, is_ram}
use Rattle.rmm_model.specs.Start.{start_level}
use Rattle.rmm_model.specs.declared.table.Table.{Table}
use Rattle.rmm_model.proofs.AppendedSpaces.{ram-append}
use Rattle.rtt_plan.specs.declared.run.Run.{Run}
use Rattle.rtt_plan.specs.Agreement.{IsFormed, IsUsed}
use Rattle.rtt_plan.specs.Places.{IsRegion}
use Rattle.rtt_plan.specs.Planned.{IsPlanned, Planned, after_data, after_region, nothing_planned}
use Rattle.rtt_plan.specs.Following.{AreRuns, IsRun}
use Rattle.rtt_plan.specs.Runs.{runs_of}
use Rattle.rtt_plan.specs.Missing.{page_tables, run_tables, missing}
use Rattle.rtt_plan.proofs.WithMissingTables.{formed-after, placed-after, used-after, used-more}
use Rattle.rtt_plan.proofs.RunsCoverRegion.{region-runs}

-- ---- the tables of runs

pub runs-placed : (start x end : ℕ) (rs : List Run) (ts : List Table) → AreRuns start x end rs → ArePlaced start ts → ArePlaced start (run_tables start ts rs)
unfolding AreRuns run_tables
runs-placed start x end [] ts runs placed = placed
runs-placed start x end (r ∷ rs) ts runs placed =
    let run : IsRun start r = runs.0 in
    runs-placed start r.top end rs (ts ++ missing start ts r.level r.base) (runs.3) (placed-after start r.level r.base ts run.deepest placed)

pub runs-formed : (start x end : ℕ) (rs : List Run) (ts : List Table) → AreRuns start x end rs → IsFormed start ts → IsFormed start (run_tables start ts rs)
unfolding AreRuns run_tables
runs-formed start x end [] ts runs formed = formed
runs-formed start x end (r ∷ rs) ts runs formed =
    let run : IsRun start r = runs.0 in
    runs-formed start r.top end rs (ts ++ missing start ts r.level r.base) (runs.3) (formed-after start r.level r.base ts run.deepest formed)

-- where all addresses of the runs are RAM
pub runs-used : (start x end : ℕ) (rs : List Run) (ts : List Table) (ram : List (ℕ × ℕ)) → AreRuns start x end rs → ((y : ℕ) → x ≤ y → y < end → is_ram ram y ≡ true)
    → IsUsed ts ram → IsUsed (run_tables start ts rs) ram
unfolding AreRuns run_tables
runs-used start x end [] ts ram runs all used = used
runs-used start x end (r ∷ rs) ts ram runs all used =
    let run : IsRun start r = runs.0 in
    let some : r.base < r.top = run.some in
    let at : r.base ≡ x = runs.1 in
    let le : r.top ≤ end = runs.2 in
    runs-used start r.top end rs (ts ++ missing start ts r.level r.base) ram (runs.3) (λ y lo hi. all y (omega arith) hi)
    (used-after start r.level r.base ts ram used (all r.base (omega arith) (omega arith)))

-- ---- the tables of pages

pub pages-placed : (start : ℕ) (xs : List ℕ) (ts : List Table) → ArePlaced start ts → ArePlaced start (page_tables start ts xs)
unfolding page_tables
pages-placed start [] ts placed = placed
pages-placed start (x ∷ xs) ts placed = pages-placed start xs (ts ++ missing start ts 3 x) (placed-after start 3 x ts (omega arith) placed)

pub pages-formed : (start : ℕ) (xs : List ℕ) (ts : List Table) → IsFormed start ts → IsFormed start (page_tables start ts xs)
unfolding page_tables
pages-formed start [] ts formed = formed
pages-formed start (x ∷ xs) ts formed = pages-formed start xs (ts ++ missing start ts 3 x) (formed-after start 3 x ts (omega arith) formed)

pub pages-used : (start : ℕ) (xs : List ℕ) (ts : List Table) (ram : List (ℕ × ℕ)) → IsUsed ts ram → list_all (is_ram ram) xs ≡ true → IsUsed (page_tables start ts xs) ram
unfolding page_tables
pages-used start [] ts ram used all = used
pages-used start (x ∷ xs) ts ram used all =
    let parts = and_parts (is_ram ram x) (list_all (is_ram ram) xs) all in
    pages-used start xs (ts ++ missing start ts 3 x) ram (used-after start 3 x ts ram used parts.0) parts.1

-- ---- plans

pub start-highest : (s2sz : ℕ) → start_level s2sz ≤ 2
start-highest s2sz = grind (arith, nat_tests)

pub planned-nothing : (s2sz block_level : ℕ) → block_level ≤ 3 → IsPlanned (nothing_planned s2sz block_level)
planned-nothing s2sz block_level deep =
    let high : start_level s2sz ≤ 2 = start-highest s2sz in
    record {
      formed = record { placed = record { shape = λ level base m. absurd (cc) }; chain = λ level base m lt. absurd (cc) };
      used = record { used = λ level base m. absurd (cc) };
      highest = high;
      allowed = omega arith;
      deepest = omega arith;
    }

ram-grows : (ram more : List (ℕ × ℕ)) (y : ℕ) → is_ram ram y ≡ true → is_ram (ram ++ more) y ≡ true
ram-grows ram more y h = rw (ram-append ram more y, h) refl

region-ram : (ram : List (ℕ × ℕ)) (base end y : ℕ) → base ≤ y → y < end → is_ram (ram ++ (base, end) ∷ []) y ≡ true
region-ram ram base end y lo hi =
    let here : is_ram ((base, end) ∷ []) y ≡ true = grind (arith, nat_tests) in
    rw (ram-append ram ((base, end) ∷ []) y, here) (or-true (is_ram ram y))

pub planned-region : (p : Planned) (base end : ℕ) → IsPlanned p → IsRegion base end → base < end → IsPlanned (after_region p base end)
planned-region p base end planned region some =
    let start : ℕ = p.space.start in
    let ram : List (ℕ × ℕ) = p.space.ram ++ (base, end) ∷ [] in
    let runs : AreRuns start base end (runs_of base end p.least_level) = region-runs start base end p.least_level planned.allowed region planned.deepest some in
    record {
      formed = runs-formed start base end (runs_of base end p.least_level) p.space.tables runs planned.formed;
      used = runs-used start base end (runs_of base end p.least_level) p.space.tables ram runs (λ y lo hi. region-ram p.space.ram base end y lo hi)
          (used-more p.space.tables p.space.ram ram planned.used (λ y h. ram-grows p.space.ram ((base, end) ∷ []) y h));
      highest = planned.highest;
      allowed = planned.allowed;
      deepest = planned.deepest;
    }

pub planned-data : (p : Planned) (base count : ℕ) → IsPlanned p → list_all (is_ram p.space.ram) (granules count base) ≡ true → IsPlanned (after_data p base count)
planned-data p base count planned all = record {
  formed = pages-formed p.space.start (granules count base) p.space.tables planned.formed;
  used = pages-used p.space.start (granules count base) p.space.tables p.space.ram planned.used all;
  highest = planned.highest;
  allowed = planned.allowed;
  deepest = planned.deepest;
}
