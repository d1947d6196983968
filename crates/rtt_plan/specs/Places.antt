-- Where a loop over the entries of a region may be. This project's choice.
use Rattle.std.specs.Prelude.{◌≡◌, ℕ, ◌<◌, ◌≤◌, true}
use Rattle.rmm_model.specs.Blocks.{down, size}
use Rattle.rtt_plan.specs.Entries.{is_first}

-- a region of whole pages
pub record IsRegion (base end : ℕ) : Type 0 where
  pub base_at : down (size 3) base ≡ base
  pub end_at : down (size 3) end ≡ end

-- x is where an entry of the region begins, or its end
pub record AtEntry (base end least_level x : ℕ) : Type 0 where
  pub page : down (size 3) x ≡ x
  pub low : base ≤ x
  pub high : x ≤ end
  pub first : x < end → is_first base end least_level x ≡ true
