use Rattle.rim_audit.specs.inside.Copies.{IsSameItem}
use Rattle.rim_audit.proofs.CopiesOfMonitors.{none-marked, one-more}
use Rattle.rim_audit.proofs.copies.marked.Goals as goal

pub loop-number-init : goal.loop-number-init
loop-number-init c = λ number at. absurd (none-marked 64 number at)

pub loop-number-preserved : goal.loop-number-preserved
loop-number-preserved c = λ number at.
    one-more (IsSameItem c.args.items.now c.args.others.now) c.loop-number.marks c.loop-number.number number c.is_same_item.result c.loop-number.invariant
    c.is_same_item.ensures at
