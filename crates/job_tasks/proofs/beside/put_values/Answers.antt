use Rattle.std.proofs.Common.{◌∙◌, arith, subst, sym}
use Rattle.rim_chain.specs.Chains.{IsUnderWay}
use Rattle.job_tasks.proofs.ChainsInPlaces.{way-at}
use Rattle.job_tasks.proofs.beside.put_values.Goals as goal

pub value_after-requires : goal.value_after-requires
value_after-requires g c =
    subst (IsUnderWay c.in-Some.task) (sym c.index-chains-i.is)
    (way-at c.args.tasks.now c.args.chains.now c.loop-i.i c.index-tasks-i.result c.index-chains-i.result c.in-Some.task c.requires.own
    (omega (arith, c.loop-i-test.true)) (sym c.index-tasks-i.is ∙ c.in-Some.is))
