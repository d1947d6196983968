use Rattle.std.proofs.Common.{◌≡◌, ◌+◌, length, drop}
use Rattle.launch_plan.specs.Links.{keys_of}
use Rattle.launch_plan.proofs.reading.pages_of.Given as goal

abbrev pub invariant-loop-link : goal.invariant-loop-link
invariant-loop-link l = l.pages + length (keys_of (drop l.link-index l.links)) ≡ length (keys_of l.links)
