use Rattle.rim_binding.proofs.BoundByMeasurement.{host-measured, launch-rim}
use Rattle.rim_binding.proofs.laws.a_rim_is_of_the_events.Goals as goal

pub returns-clause-launch : goal.returns-clause-launch
returns-clause-launch c = launch-rim

pub returns-clause-host : goal.returns-clause-host
returns-clause-host c = λ num_aux rule memory algo rim built.
    (host-measured num_aux rule memory c.args.commands.now algo rim c.commands_fit.ensures built).at
