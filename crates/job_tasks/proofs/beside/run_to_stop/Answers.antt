use Rattle.std.proofs.Common.{◌∙◌, arith}
use Rattle.job_tasks.proofs.ChainsInPlaces.{ways-on}
use Rattle.job_tasks.proofs.beside.run_to_stop.Goals as goal

pub turns-preserved : goal.turns-preserved
turns-preserved g c = (
  c.go_on.ensures.size ∙ c.turns.invariant.0,
  ways-on c.args.tasks.now c.turns.chains c.go_on.new.chains (omega (arith, c.turns.invariant.0, c.requires.size)) c.turns.invariant.1 c.go_on.ensures,
)
