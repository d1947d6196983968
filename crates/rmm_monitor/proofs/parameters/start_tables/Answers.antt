use Rattle.std.proofs.Common.{◌≡◌, ◌+◌, ◌*◌, ◌∙◌, ◌<◌, sym, refl, arith, length}
use Rattle.std.proofs.Math.ListN.{length-set}
use Rattle.std.proofs.lemmas.List.{take_more_set}
use Rattle.rmm_model.proofs.GranulesInARow.{granules-last, granules-none}
use Rattle.rmm_monitor.proofs.parameters.start_tables.Goals as goal

pub loop-index-init : goal.loop-index-init
loop-index-init c = (refl, sym (granules-none 0 c.args.base (omega arith)))

pub loop-index-preserved : goal.loop-index-preserved
loop-index-preserved c =
    let room : c.loop-index.index < length c.loop-index.tables = omega arith in
    let place : c.args.base + c.loop-index.index * 4096 ≡ c.args.base + 4096 * c.loop-index.index = omega arith in (
      length-set _ _ _ ∙ c.loop-index.invariant.0,
      take_more_set c.loop-index.tables c.loop-index.index _ room ∙ rw (c.loop-index.invariant.1, c.from.ensures, place) (sym (granules-last c.loop-index.index c.args.base)),
    )
