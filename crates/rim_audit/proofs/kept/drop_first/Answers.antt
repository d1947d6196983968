use Rattle.std.proofs.Common.{List, subst, sym}
use Rattle.std.specs.List.{All}
use Rattle.rim_audit.specs.declared.copies.LaunchCopies.{LaunchCopies}
use Rattle.rim_audit.specs.inside.Copies.{IsKept}
use Rattle.rim_audit.proofs.CopiesOfMonitors.{all-after-first}
use Rattle.rim_audit.proofs.kept.drop_first.Goals as goal

pub loop-preserved : goal.loop-preserved
loop-preserved c = λ files all.
    subst (λ (launches : List LaunchCopies). All (IsKept files) launches) (sym c.remove.ensures.items)
    (all-after-first (IsKept files) c.loop.launches.items (c.loop.invariant files all))
