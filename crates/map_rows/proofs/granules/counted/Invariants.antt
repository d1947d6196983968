use Rattle.std.proofs.Common.{◌≡◌, take}
use Rattle.list_model.specs.Entries.{commands_of}
use Rattle.map_rows.specs.Granules.{granules_of}
use Rattle.map_rows.proofs.GranulesInTurn.{any_contents}
use Rattle.map_rows.proofs.granules.counted.Given as goal

-- the granules of the commands so far
abbrev pub invariant-loop-index : goal.invariant-loop-index
invariant-loop-index l = l.found ≡ granules_of (take l.index (commands_of any_contents l.plan))
