-- What the monitor asks of tables, runs and pages of data that come one after another. DEN0137, failure
-- conditions of RMI_RTT_CREATE, RMI_RTT_INIT_RIPAS and RMI_DATA_CREATE, as far as they speak of the IPA space;
-- that a run is set whole, where nothing of it is RAM and no deeper table is in it, is this project's choice.
use Rattle.std.specs.Prelude.{◌≡◌, ℕ, ◌-◌, ◌<◌, ◌≤◌, true, false, List, [], ◌∷◌, ◌++◌}
use Rattle.rmm_model.specs.Blocks.{down, span}
use Rattle.rmm_model.specs.Space.{deeper, has, is_ram, overlaps, walk}
use Rattle.rmm_model.specs.declared.table.Table.{Table}
use Rattle.rtt_plan.specs.declared.run.Run.{Run}
use Rattle.rtt_plan.specs.Missing.{missing}

-- ---- tables

-- a table of an allowed level, where one may be, with the walk of its first address one level above it
pub record CanBeMade (start : ℕ) (ts : List Table) (t : Table) : Type 0 where
  pub level : start < t.level
  pub deepest : t.level ≤ 3
  pub base_at : down (span t.level) t.base ≡ t.base
  pub above : walk start ts t.base ≡ t.level - 1

-- each of some tables, once those before it are made
unfoldable pub AreMadeInTurn : ℕ → List Table → List Table → Type 0
AreMadeInTurn start ts [] = Unit {0}
AreMadeInTurn start ts (t ∷ new) = CanBeMade start ts t × AreMadeInTurn start (ts ++ t ∷ []) new

-- ---- runs

-- the walk of a run's base ends at its level, nothing of it is RAM, and no deeper table is in it
pub record CanBeSet (start : ℕ) (ts : List Table) (ram : List (ℕ × ℕ)) (r : Run) : Type 0 where
  pub ends : walk start ts r.base ≡ r.level
  pub free : overlaps ram r.base r.top ≡ false
  pub none_deeper : deeper ts r.level r.base r.top ≡ false

-- the tables that each run needs, and then the run
unfoldable pub AreSetInTurn : ℕ → List Table → List (ℕ × ℕ) → List Run → Type 0
AreSetInTurn start ts ram [] = Unit {0}
AreSetInTurn start ts ram (r ∷ rs) =
    AreMadeInTurn start ts (missing start ts r.level r.base)
    × CanBeSet start (ts ++ missing start ts r.level r.base) ram r
    × AreSetInTurn start (ts ++ missing start ts r.level r.base) ((r.base, r.top) ∷ ram) rs

-- ---- pages of data

-- the walk of a page ends at level 3, it is RAM, and it has no data
pub record CanGetData (start : ℕ) (ts : List Table) (ram : List (ℕ × ℕ)) (assigned : List ℕ) (x : ℕ) : Type 0 where
  pub ends : walk start ts x ≡ 3
  pub in_ram : is_ram ram x ≡ true
  pub free : has assigned x ≡ false

-- the tables that each page needs, and then the page
unfoldable pub AreFilledInTurn : ℕ → List Table → List (ℕ × ℕ) → List ℕ → List ℕ → Type 0
AreFilledInTurn start ts ram assigned [] = Unit {0}
AreFilledInTurn start ts ram assigned (x ∷ xs) =
    AreMadeInTurn start ts (missing start ts 3 x)
    × CanGetData start (ts ++ missing start ts 3 x) ram assigned x
    × AreFilledInTurn start (ts ++ missing start ts 3 x) ram (x ∷ assigned) xs
