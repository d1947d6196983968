use Rattle.std.proofs.Common.{◌≡◌, ◌+◌, ◌-◌, length, arith}
use Rattle.rim_desc.specs.Page.{with_part}
use Rattle.rim_desc.proofs.page.put.Goals as goal

pub returns : goal.returns
unfolding with_part
returns c =
    let n : c.args.at + length c.args.part.now - c.args.at ≡ length c.args.part.now = omega arith in
    rw (c.copy_from_slice.ensures.after, n)
