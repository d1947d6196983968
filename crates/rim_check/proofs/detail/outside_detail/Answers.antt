use Rattle.rim_check.proofs.detail.outside_detail.Goals as goal

pub returns : goal.returns
returns c = rw (c.in_ok-range.ensures, c.in_ok-page.ensures, c.from.ensures, c.from-2.ensures) at c.format.ensures.ok
