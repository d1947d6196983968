use Rattle.std.proofs.Common.{◌≡◌, map, take}
use Rattle.serde_json.specs.View.{view}
use Rattle.launch_json.specs.Items.{stretch_json}
use Rattle.launch_json.proofs.stretches.stretch_values.Given as goal

-- what was made
abbrev pub invariant-loop-stretch : goal.invariant-loop-stretch
invariant-loop-stretch l = map view l.values.items ≡ map stretch_json (take l.stretch-index l.stretches)
