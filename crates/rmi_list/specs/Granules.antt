-- How many granules a launch takes, whatever its own pool has. This project's choice.
use Rattle.std.specs.Prelude.{◌≡◌, ℕ, List, Option, Some, None, Result, Ok, Err}
use Rattle.list_model.specs.Entries.{Entry, delegated}
use Rattle.rim_launch.specs.LaunchData.{LaunchData}
use Rattle.rim_launch.specs.declared.config.Config.{Config}
use Rattle.rim_launch.specs.declared.config.TheConstants.{POOL_LIMIT}
use Rattle.ipa_layout.specs.Layout.{PlacedData}
use Rattle.rmi_list.specs.Listed.{listed}
use Rattle.rmi_list.specs.declared.fault.ListFault.{ListFault}

-- a configuration that has the largest pool, and else is the same
pub record HasLargestPool (c d : Config) : Type 0 where
  pub pool_count : d.pool_count ≡ POOL_LIMIT
  pub algo : d.algo ≡ c.algo
  pub s2sz : d.s2sz ≡ c.s2sz
  pub sve : d.sve ≡ c.sve
  pub pmu : d.pmu ≡ c.pmu
  pub numbers : d.numbers ≡ c.numbers
  pub rpv : d.rpv ≡ c.rpv
  pub block_level : d.block_level ≡ c.block_level
  pub num_aux : d.num_aux ≡ c.num_aux
  pub rec_rule : d.rec_rule ≡ c.rec_rule
  pub pool_base : d.pool_base ≡ c.pool_base

-- a launch with another configuration
abbrev pub with_config : LaunchData → Config → LaunchData
with_config l c = record l { config = c }

-- the granules of a list, if there is one
abbrev pub granules_of : Result (List Entry) ListFault → Option ℕ
granules_of (Ok entries) = Some (delegated entries)
granules_of (Err fault) = None

-- with the largest pool, the launch takes this many granules; none are said where it is refused with that pool too
abbrev pub TakesGranules : LaunchData → PlacedData → Option ℕ → Type 0
TakesGranules l p count = (c : Config) × HasLargestPool l.config c × (count ≡ granules_of (listed (with_config l c) p))
