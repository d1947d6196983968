use Rattle.std.proofs.Common.{◌<◌, length, arith, ◌∙◌}
use Rattle.std.proofs.lemmas.List.{length-set}
use Rattle.job_board.proofs.FinishedBoards.{copied_more}
use Rattle.job_board.proofs.closing.copy_values.Goals as goal

pub loop-number-preserved : goal.loop-number-preserved
loop-number-preserved c =
    let lt : c.loop-number.number < length c.loop-number.values = omega (arith, c.loop-number-test.true, c.loop-number.auto.values) in (
      length-set c.loop-number.values c.loop-number.number c.in-Some.value ∙ c.loop-number.invariant.0,
      copied_more c.args.given.now c.loop-number.values c.loop-number.number c.in-Some.value c.loop-number.invariant.0 lt c.in-Some.is c.loop-number.invariant.1,
    )
