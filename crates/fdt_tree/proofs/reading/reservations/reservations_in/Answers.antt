use Rattle.std.proofs.Common.{length, inr, sym, ◌∙◌}
use Rattle.std.proofs.lemmas.Result.{err_from_is_err_and}
use Rattle.fdt_tree.proofs.LoopReads.{goes_on, fails, ends}
use Rattle.fdt_tree.proofs.ReservationsAreSpelled.{pairs_go_on, pairs_fail, pairs_end, pairs_over}
use Rattle.fdt_tree.proofs.reading.reservations.reservations_in.Goals as goal

pub returns-in_err-pair : goal.returns-in_err-pair
returns-in_err-pair c =
    let p = err_from_is_err_and c.from_residual.result c.from_residual.ensures.1 in
    let f = c.in_err-pair.field-0.0 in
    rw (p.1, p.2) (inr (fails _ _ _ f (pairs_fail (length c.args.block.now) c.loop.counter c.loop.rest.now f c.loop-test.true c.in_err-pair.ensures)
    c.loop.invariant))

pub returns-then-is_end : goal.returns-then-is_end
returns-then-is_end c =
    ends _ _ _ (pairs_end (length c.args.block.now) c.loop.counter c.loop.rest.now c.in_ok-pair.after.now c.in_ok-pair.pair c.loop-test.true
    c.in_ok-pair.ensures (sym c.is_end.ensures ∙ c.if-is_end.true)) c.loop.invariant

pub loop-preserved : goal.loop-preserved
loop-preserved c =
    goes_on _ _ _ _ _ _ (pairs_go_on (length c.args.block.now) c.loop.counter c.loop.rest.now c.in_ok-pair.after.now c.in_ok-pair.pair c.loop-test.true
    c.in_ok-pair.ensures (sym c.is_end.ensures ∙ c.if-is_end.false))
    c.in_ok-push.ensures.items c.loop.invariant

pub returns : goal.returns
returns c = inr (fails _ _ _ _ (pairs_over (length c.args.block.now) c.loop.counter c.loop.rest.now c.loop-test.false) c.loop.invariant)
