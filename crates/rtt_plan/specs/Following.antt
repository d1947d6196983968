-- Runs that follow one another, and what they make RAM. That one InitRipas sets a run whole, in one table and by whole
-- entries of it, is this project's choice; the sizes of entries and tables are DEN0137's, "RTT levels".
use Rattle.std.specs.Prelude.{◌≡◌, ℕ, ◌+◌, ◌-◌, ◌/◌, ◌<◌, ◌≤◌, List, [], ◌∷◌, ◌++◌, map}
use Rattle.rmm_model.specs.Blocks.{down, size, span, stretches}
use Rattle.rtt_plan.specs.Entries.{block_level}
use Rattle.rtt_plan.specs.declared.run.Run.{Run}

-- A run is of an allowed level, has an address, begins and ends at multiples of its entries, and is in one table
-- of its level.
pub record IsRun (least_level : ℕ) (r : Run) : Type 0 where
  pub allowed : least_level ≤ r.level
  pub deepest : r.level ≤ 3
  pub some : r.base < r.top
  pub base_at : down (size r.level) r.base ≡ r.base
  pub top_at : down (size r.level) r.top ≡ r.top
  pub in_table : r.top ≤ down (span r.level) r.base + span r.level

-- runs that follow one another from x to end, without a gap
unfoldable pub AreRuns : ℕ → ℕ → ℕ → List Run → Type 0
AreRuns least_level x end [] = x ≡ end
AreRuns least_level x end (r ∷ rs) = IsRun least_level r × (r.base ≡ x) × (r.top ≤ end) × AreRuns least_level r.top end rs

-- the ranges that runs make RAM
abbrev pub ranges_of : List Run → List (ℕ × ℕ)
ranges_of runs = map (λ r. (r.base, r.top)) runs

-- the blocks of runs, one for each entry that a run changes: the first address and the first past it
unfoldable pub blocks_of : List Run → List (ℕ × ℕ)
blocks_of [] = []
blocks_of (r ∷ rs) = stretches ((r.top - r.base) / size r.level) (size r.level) r.base ++ blocks_of rs

-- the block of an entry of a region
abbrev pub block_of : ℕ → ℕ → ℕ → ℕ → ℕ × ℕ
block_of base end least_level x = (x, x + size (block_level base end least_level x))
