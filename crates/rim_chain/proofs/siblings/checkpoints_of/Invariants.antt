use Rattle.std.specs.List.{All}
use Rattle.rim_chain.specs.inside.Checkpoints.{HaveNoValues}
use Rattle.rim_chain.proofs.siblings.checkpoints_of.Given as goal

abbrev pub invariant-loop-number : goal.invariant-loop-number
invariant-loop-number l = All (λ own. HaveNoValues own.items) l.checkpoints.items
