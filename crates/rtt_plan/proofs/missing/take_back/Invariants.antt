use Rattle.std.proofs.Common.{◌≡◌, vec_len}
use Rattle.rtt_plan.specs.inside.Undone.{undone}
use Rattle.rtt_plan.proofs.missing.take_back.Given as goal

abbrev pub invariant-loop-act : goal.invariant-loop-act
invariant-loop-act l = undone l.acts.items l.tables.keys ≡ undone l.initial.acts.items l.initial.tables.keys

abbrev pub decreases-loop-act : goal.decreases-loop-act
decreases-loop-act l = vec_len l.acts
