-- What chains come to that are under way. This project's choice.
use Rattle.std.specs.Prelude.{◌≡◌, ◌<◌, ◌≤◌, ℕ, List, length, slice_index_or}
use Rattle.rim_desc.specs.Part.{Part, extended_by}
use Rattle.rim_desc.specs.declared.measurement.Algo.{Algo}
use Rattle.launch_plan.specs.Prefixes.{prefix_value}
use Rattle.rim_chain.specs.Jobs.{JobView}

-- a measurement, and the parts that it is still to be extended by; and after how many links of its launch's plan it ends
pub record ChainView : Type 0 where
  pub algo : Algo
  pub value : List ℕ
  pub left : List Part
  pub end : ℕ

-- what a chain comes to
abbrev pub chains_to : ChainView → List ℕ
chains_to c = extended_by c.algo c.value c.left

-- a chain comes to what the launch's links up to its end are measured as
abbrev pub IsUnderWay : JobView → ChainView → Type 0
IsUnderWay job c = (c.end ≤ length job.plan.links) × (chains_to c ≡ prefix_value c.end job.plan job.row.digests)

-- one chain has come further than another, by the same algorithm and to the same end
abbrev pub IsNext : ChainView → ChainView → Type 0
IsNext before after = (after.algo ≡ before.algo) × (after.end ≡ before.end) × (chains_to after ≡ chains_to before)

-- each chain has come further
pub record HaveGoneOn (before after : List ChainView) : Type 0 where
  pub size : length after ≡ length before
  pub each : (k : ℕ) (d : ChainView) → k < length before → IsNext (slice_index_or before k d) (slice_index_or after k d)
