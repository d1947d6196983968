use Rattle.std.proofs.Common.{◌<◌, length, arith, refl, sym, ◌∙◌}
use Rattle.launch_plan.specs.declared.link.Link.TheVariants as link
use Rattle.rim_chain.proofs.PrefixValues.{prefix-next}
use Rattle.launch_plan.proofs.LinkByLink.{keys-so-far, keys-within}
use Rattle.rim_chain.proofs.chaining.chained_to.Goals as goal

pub split_at-requires : goal.split_at-requires
split_at-requires c =
    let inside : c.loop-at.at < length c.args.plan.now.links = omega (arith, c.loop-at-test.true, c.requires.end.1) in
    let pages = rw c.loop-at.invariant.links at c.loop-at.invariant.place.pages in
    let within = keys-within c.args.plan.now.links c.loop-at.at (link.Blocks 0 0 0) _ inside refl in
    rw c.digests.ensures.digests (omega (arith, pages, within, c.requires.filled))

pub split_at-requires-in-loop-at : goal.split_at-requires-in-loop-at
split_at-requires-in-loop-at c =
    let inside : c.loop-at.at < length c.args.plan.now.links = omega (arith, c.loop-at-test.true, c.requires.end.1) in
    let pages = rw c.loop-at.invariant.links at c.loop-at.invariant.place.pages in
    let count = rw c.links.ensures.links at c.page_count.ensures in
    let within = keys-within c.args.plan.now.links c.loop-at.at _ _ inside count in
    let back = rw c.digests.ensures.digests at c.split_at.ensures.back_len in
    omega (arith, pages, within, back, c.requires.filled)

pub loop-at-preserved : goal.loop-at-preserved
loop-at-preserved c =
    let inside : c.loop-at.at < length c.args.plan.now.links = omega (arith, c.loop-at-test.true, c.requires.end.1) in
    let pages = rw c.loop-at.invariant.links at c.loop-at.invariant.place.pages in
    let count = rw c.links.ensures.links at c.page_count.ensures in
    let value = rw c.loop-at.invariant.links at c.loop-at.invariant.place.value in
    let more = keys-so-far c.args.plan.now.links c.loop-at.at _ _ inside count in
    let own = c.split_at-in-loop-at.ensures.front_len in
    record {
      place = record {
        links = omega (arith, inside);
        pages = omega (arith, pages, more, own);
        value =
            rw (c.links.ensures.links, c.split_at-in-loop-at.ensures.front, c.split_at.ensures.back, c.digests.ensures.digests, count, value, c.params-algo.ensures, pages) at c.extended_by_link.ensures
            ∙ sym (prefix-next c.args.plan.now c.args.row.now.digests c.loop-at.at _ inside);
      };
      links = refl;
    }
