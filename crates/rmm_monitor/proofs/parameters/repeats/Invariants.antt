use Rattle.std.proofs.Common.{◌≡◌, drop}
use Rattle.rmm_model.specs.Owners.{repeats}
use Rattle.rmm_monitor.proofs.parameters.repeats.Given as goal

abbrev pub invariant-loop-index : goal.invariant-loop-index
invariant-loop-index l = repeats (drop l.index l.granules) ≡ repeats l.granules
