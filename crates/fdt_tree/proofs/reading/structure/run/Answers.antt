use Rattle.std.proofs.Common.{length, inr}
use Rattle.std.proofs.lemmas.Result.{err_from_is_err_and}
use Rattle.fdt_tree.specs.inside.TokenViews.{as_token}
use Rattle.fdt_tree.specs.inside.OpenNodes.{place_of}
use Rattle.fdt_tree.proofs.ScanLoop.{scan_goes_on, scan_fails, scan_ends, scan_is_over, not_finish, at_place}
use Rattle.fdt_tree.proofs.LoopReads.{goes_on, fails, ends}
use Rattle.fdt_tree.proofs.reading.structure.run.Goals as goal

pub returns-in_err-token-clause-exact : goal.returns-in_err-token-clause-exact
returns-in_err-token-clause-exact c =
    let p = err_from_is_err_and c.from_residual.result c.from_residual.ensures.1 in
    let strings = c.args.strings.now.bytes.items in
    let place = place_of strings c.loop.nodes in
    let f = c.in_err-token.field-0.0 in
    let here = at_place strings c.loop.rest.now _ place _ (c.place_in-place.ensures strings) c.in_err-token.ensures.exact in
    rw (p.1, p.2) (inr (fails _ _ _ f (scan_fails strings (length c.args.block.now) c.loop.counter place c.loop.rest.now f c.loop-test.true here)
    c.loop.invariant))

pub returns-in-Finish-clause-exact : goal.returns-in-Finish-clause-exact
returns-in-Finish-clause-exact c =
    let strings = c.args.strings.now.bytes.items in
    let place = place_of strings c.loop.nodes in
    let e = rw c.in-Finish.is at c.in_ok-token.ensures.exact in
    let here = at_place strings c.loop.rest.now _ place _ (c.place_in-place.ensures strings) e in
    ends _ _ _ (scan_ends strings (length c.args.block.now) c.loop.counter place c.loop.rest.now c.in_ok-token.after.now c.loop-test.true here) c.loop.invariant

pub loop-preserved : goal.loop-preserved
loop-preserved c =
    let strings = c.args.strings.now.bytes.items in
    let place = place_of strings c.loop.nodes in
    let here = at_place strings c.loop.rest.now _ place _ (c.place_in-place.ensures strings) c.in_ok-token.ensures.exact in
    let now =
    scan_goes_on strings (length c.args.block.now) c.loop.counter place (place_of strings c.in_ok-nodes.nodes) c.loop.rest.now c.in_ok-token.after.now
    (as_token strings c.in_ok-token.token) c.loop-test.true here
    (not_finish strings c.in_ok-token.token c.in_default.not-Finish) (c.in_ok-nodes.ensures.place strings) in
    goes_on _ _ _ _ _ _ now (c.in_ok-nodes.ensures.tokens strings) c.loop.invariant

pub returns-clause-exact : goal.returns-clause-exact
returns-clause-exact c =
    let strings = c.args.strings.now.bytes.items in
    inr (fails _ _ _ _ (scan_is_over strings (length c.args.block.now) c.loop.counter
    (place_of strings c.loop.nodes) c.loop.rest.now c.loop-test.false) c.loop.invariant)
