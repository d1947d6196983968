use Rattle.rim_show.proofs.fault.devicetree_kind.Goals as goal

pub returns-in-BadString : goal.returns-in-BadString
returns-in-BadString c = rw c.in-BadString.is
