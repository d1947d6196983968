use Rattle.std.specs.Prelude.{vec_capacity}
use Rattle.job_core.proofs.LineOfReady.{IsBegun}
use Rattle.job_core.proofs.line.first_ready.Given as goal

abbrev pub invariant-loop-launch : goal.invariant-loop-launch
invariant-loop-launch l = IsBegun l.left l.ready.items l.launch (vec_capacity l.ready)
