use Rattle.std.specs.Prelude.{IfSome}
use Rattle.rim_audit.specs.inside.Copies.{Serves}
use Rattle.rim_audit.proofs.copies.longest.Given as goal

abbrev pub invariant-loop-copy : goal.invariant-loop-copy
invariant-loop-copy l = IfSome l.found (λ copy. Serves l.commands copy.now)
