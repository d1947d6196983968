use Rattle.std.proofs.Common.{◌≡◌, ◌∙◌, ◌+◌, ◌-◌, ◌<◌, sym, refl, arith}
use Rattle.rmm_model.proofs.StretchByStretch.{place-fits, place-next, stretches-end, stretches-next}
use Rattle.rmm_model.proofs.measuring.extended_by_stretches.Goals as goal

pub loop-init : goal.loop-init
loop-init c = let e : c.args.count - 0 ≡ c.args.count = omega arith in rw e (record { place = refl; left = refl })

pub overflow_add-top : goal.overflow_add-top
overflow_add-top c =
    let some : 0 < c.args.count - c.loop.counter = omega arith in
    omega (arith, place-fits c.loop.from (c.args.count - c.loop.counter) c.args.size _ some c.loop.invariant.place)

pub loop-preserved : goal.loop-preserved
loop-preserved c =
    let some : 0 < c.args.count - c.loop.counter = omega arith in
    let one : c.args.count - (c.loop.counter + 1) ≡ c.args.count - c.loop.counter - 1 = omega arith in
    rw (one, c.extend-rim.ensures, c.ripas_descriptor.ensures) (record {
      place = place-next c.loop.from (c.args.count - c.loop.counter) c.args.size _ some c.loop.invariant.place;
      left = sym (stretches-next c.args.algo c.loop.rim.bytes (c.args.count - c.loop.counter) c.args.size c.loop.from some) ∙ c.loop.invariant.left;
    })

pub returns : goal.returns
returns c =
    let none : c.args.count - c.loop.counter ≡ 0 = omega arith in
    sym (stretches-end c.args.algo c.loop.rim.bytes c.args.size c.loop.from) ∙ rw none at c.loop.invariant.left
