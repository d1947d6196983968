-- Where a chain is. This project's choice.
use Rattle.std.specs.Prelude.{◌≡◌, ◌≤◌, List, length, take}
use Rattle.rim_desc.specs.declared.measurement.Measurement.{Measurement}
use Rattle.launch_plan.specs.Prefixes.{prefix_value}
use Rattle.launch_plan.specs.Links.{PlanView, keys_of}
use Rattle.rim_chain.specs.declared.chaining.Place.{Place}

-- the first links of a plan, as many pages as they have, and what they chain to
pub record IsPlace (p : PlanView) (digests : List Measurement) (at : Place) : Type 0 where
  pub links : at.links ≤ length p.links
  pub pages : at.pages ≡ length (keys_of (take at.links p.links))
  pub value : at.value.bytes ≡ prefix_value at.links p digests
