use Rattle.std.proofs.Common.{◌∙◌, arith, sym}
use Rattle.job_tasks.proofs.ChainsInPlaces.{way-at}
use Rattle.job_tasks.proofs.beside.set_stop.Goals as goal

pub chain_after-requires : goal.chain_after-requires
chain_after-requires g c =
    way-at c.args.tasks.now c.args.chains.now c.args.place c.index-tasks-place.result c.index-chains-place.result c.in-Some.task c.requires.own
    (omega (arith, c.if-place-tasks.false)) (sym c.index-tasks-place.is ∙ c.in-Some.is)
