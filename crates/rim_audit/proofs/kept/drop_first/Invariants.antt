use Rattle.std.proofs.Common.{ℕ, List}
use Rattle.std.specs.List.{All}
use Rattle.rim_audit.specs.inside.Copies.{IsKept}
use Rattle.rim_audit.proofs.kept.drop_first.Given as goal

abbrev pub invariant-loop : goal.invariant-loop
invariant-loop l = (files : List (List ℕ)) → All (IsKept files) l.fn.launches.items → All (IsKept files) l.launches.items
