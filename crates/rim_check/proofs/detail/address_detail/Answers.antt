use Rattle.rim_check.proofs.detail.address_detail.Goals as goal

pub returns : goal.returns
returns c = rw (c.in_ok-at.ensures, c.from.ensures) at c.format.ensures.ok
