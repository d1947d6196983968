use Rattle.std.proofs.Common.{◌∙◌, arith, subst, sym}
use Rattle.rim_chain.specs.Chains.{IsUnderWay}
use Rattle.job_tasks.proofs.ChainsInPlaces.{way-at}
use Rattle.job_tasks.proofs.beside.prefix_at.Goals as goal

pub prefix_after-requires : goal.prefix_after-requires
prefix_after-requires g c =
    subst (IsUnderWay c.in-Some.task) (sym c.index-chains-place.is)
    (way-at c.args.tasks.now c.args.chains.now c.args.place c.index-tasks-place.result c.index-chains-place.result c.in-Some.task c.requires.own
    (omega (arith, c.if-place-tasks.false)) (sym c.index-tasks-place.is ∙ c.in-Some.is))
