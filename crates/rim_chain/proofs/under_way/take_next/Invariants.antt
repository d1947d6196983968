use Rattle.std.proofs.Common.{◌≡◌, length}
use Rattle.rim_chain.specs.inside.UnderWay.{HaveTaken}
use Rattle.rim_chain.proofs.under_way.take_next.Given as goal

abbrev pub invariant-each : goal.invariant-each
invariant-each l = HaveTaken l.i l.fn.chains l.chains l.descriptors l.taken × (length l.descriptors ≡ length l.fn.descriptors)
    × (length l.taken ≡ length l.fn.taken)
