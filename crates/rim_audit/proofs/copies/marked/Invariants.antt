use Rattle.rim_audit.specs.inside.Copies.{AreMarked}
use Rattle.rim_audit.proofs.copies.marked.Given as goal

abbrev pub invariant-loop-number : goal.invariant-loop-number
invariant-loop-number l = AreMarked l.items l.others l.marks
