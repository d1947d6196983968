use Rattle.rim_chain.specs.inside.Checkpoints.{HaveNoValues}
use Rattle.rim_chain.proofs.siblings.own_checkpoints.Given as goal

abbrev pub invariant-loop-at : goal.invariant-loop-at
invariant-loop-at l = HaveNoValues l.checkpoints.items
