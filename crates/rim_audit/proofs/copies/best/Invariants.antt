use Rattle.std.specs.Prelude.{IfSome}
use Rattle.rim_audit.specs.inside.Copies.{Serves}
use Rattle.rim_audit.proofs.copies.best.Given as goal

abbrev pub invariant-loop-of_launch : goal.invariant-loop-of_launch
invariant-loop-of_launch l = IfSome l.found (λ copy. Serves l.commands copy.now)
