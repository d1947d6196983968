use Rattle.std.proofs.Common.{◌≡◌, ◌∙◌, ◌+◌, ◌-◌, ◌<◌, sym, refl, arith}
use Rattle.rim_chain.proofs.ExtendedByParts.{unmeasured-end, unmeasured-next}
use Rattle.rim_chain.proofs.chaining.extended_by_unmeasured.Goals as goal

pub loop-init : goal.loop-init
loop-init c = let e : c.args.count - 0 ≡ c.args.count = omega arith in rw e (record { place = omega arith; left = refl })

pub loop-preserved : goal.loop-preserved
loop-preserved c =
    let some : 0 < c.args.count - c.loop.counter = omega arith in
    let one : c.args.count - (c.loop.counter + 1) ≡ c.args.count - c.loop.counter - 1 = omega arith in
    rw (one, c.extend-rim.ensures, c.data_descriptor.ensures) (record {
      place = omega arith;
      left = sym (unmeasured-next c.args.algo c.loop.rim.bytes (c.args.count - c.loop.counter) c.loop.next some) ∙ c.loop.invariant.left;
    })

pub returns : goal.returns
returns c =
    let none : c.args.count - c.loop.counter ≡ 0 = omega arith in
    sym (unmeasured-end c.args.algo c.loop.rim.bytes c.loop.next) ∙ rw none at c.loop.invariant.left
