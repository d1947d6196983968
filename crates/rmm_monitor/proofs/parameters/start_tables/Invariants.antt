use Rattle.std.proofs.Common.{◌≡◌, take, length}
use Rattle.rmm_model.specs.Blocks.{granules}
use Rattle.rmm_monitor.proofs.parameters.start_tables.Given as goal

abbrev pub invariant-loop-index : goal.invariant-loop-index
invariant-loop-index l = (length l.tables ≡ 16) × (take l.index l.tables ≡ granules l.index l.base)
