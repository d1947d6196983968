use Rattle.std.proofs.Common.{◌∙◌, sym, arith}
use Rattle.launch_plan.proofs.LinkByLink.{keys-left, links-end, links-next}
use Rattle.rim_chain.proofs.under_way.extended_by_links.Goals as goal

pub split_at-requires : goal.split_at-requires
split_at-requires c =
    let left = keys-left c.args.links.now c.loop-link.link-index _ _ c.loop-link-test.true c.page_count.ensures in
    let filled = c.loop-link.invariant.filled in
    omega (arith, left, filled)

pub loop-link-preserved : goal.loop-link-preserved
loop-link-preserved c =
    let inside = c.loop-link-test.true in
    let count = c.page_count.ensures in
    let left = keys-left c.args.links.now c.loop-link.link-index _ _ inside count in
    let filled = c.loop-link.invariant.filled in
    let back = c.split_at.ensures.back_len in
    record {
      filled = omega (arith, left, filled, back);
      left = rw (c.extended_by_link-rim.ensures, c.split_at.ensures.front, c.split_at.ensures.back, count)
          (sym (links-next _ c.loop-link.rim.bytes c.args.links.now c.loop-link.link-index _ c.loop-link.digests.now inside) ∙ c.loop-link.invariant.left);
    }

pub returns : goal.returns
returns c =
    sym (links-end _ c.loop-link.rim.bytes c.args.links.now c.loop-link.link-index c.loop-link.digests.now c.loop-link-test.false) ∙ c.loop-link.invariant.left
