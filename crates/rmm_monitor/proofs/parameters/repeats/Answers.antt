use Rattle.std.proofs.Common.{◌∙◌, ◌+◌, sym, refl, arith}
use Rattle.std.proofs.lemmas.List.{take_rest}
use Rattle.rmm_monitor.proofs.ListsOfGranules.{repeats-end, repeats-next}
use Rattle.rmm_monitor.proofs.parameters.repeats.Goals as goal

pub returns-then-has : goal.returns-then-has
returns-then-has c =
    let next = repeats-next c.args.granules.now c.loop-index.index c.loop-index-test.true in
    let found = sym (rw (take_rest c.args.granules.now (c.loop-index.index + 1)) at c.has.ensures) ∙ c.if-has.true in
    sym (sym c.loop-index.invariant ∙ next ∙ rw found refl)

pub loop-index-preserved : goal.loop-index-preserved
loop-index-preserved c =
    let next = repeats-next c.args.granules.now c.loop-index.index c.loop-index-test.true in
    let apart = sym (rw (take_rest c.args.granules.now (c.loop-index.index + 1)) at c.has.ensures) ∙ c.if-has.false in
    rw apart at (sym next) ∙ c.loop-index.invariant

pub returns : goal.returns
returns c = sym (repeats-end c.args.granules.now c.loop-index.index (omega arith)) ∙ c.loop-index.invariant
