use Rattle.std.proofs.Common.{◌≡◌, length, take}
use Rattle.rmm_model.specs.Blocks.{granules}
use Rattle.list_model.specs.Entries.{granule}
use Rattle.rmi_list.proofs.plan.granules_at.Given as goal

abbrev pub invariant-loop-index : goal.invariant-loop-index
invariant-loop-index l = (length l.granules ≡ 16) × (take l.index l.granules ≡ granules l.index (granule l.pool l.first))
