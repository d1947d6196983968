use Rattle.std.proofs.Common.{◌∙◌, sym, arith}
use Rattle.rim_chain.proofs.ExtendedByParts.{pages-end, pages-next}
use Rattle.rim_chain.proofs.chaining.extended_by_pages.Goals as goal

pub loop-digest-preserved : goal.loop-digest-preserved
loop-digest-preserved c = rw (c.extend-rim.ensures, c.data_descriptor.ensures) (record {
  place = omega arith;
  left = sym (pages-next c.args.algo c.loop-digest.rim.bytes c.loop-digest.next c.loop-digest.digest-index c.args.digests.now _ c.loop-digest-test.true) ∙ c.loop-digest.invariant.left;
})

pub returns : goal.returns
returns c = sym (pages-end c.args.algo c.loop-digest.rim.bytes c.loop-digest.next c.loop-digest.digest-index c.args.digests.now c.loop-digest-test.false) ∙ c.loop-digest.invariant.left
