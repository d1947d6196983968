use Rattle.std.proofs.Common.{◌≡◌, false, refl}
use Rattle.std.proofs.lemmas.Result.{err_from_is_err_and}
use Rattle.fdt_tree.specs.Scanning.{property_at}
use Rattle.fdt_tree.proofs.reading.lexing.property_of.Goals as goal

pub returns-in_err-len-2-clause-exact : goal.returns-in_err-len-2-clause-exact
unfolding property_at
returns-in_err-len-2-clause-exact c =
    let early : c.args.place.late ≡ false = assumption in
    let r = c.from_residual-in_err-len-2 in
    let p = err_from_is_err_and r.result r.ensures.1 in
    rw (p.1, p.2, c.in_ok-len.ensures.exact, c.in_ok-offset.ensures.exact, c.in_ok-value.ensures, early, c.in_err-len-2.ensures) refl

pub returns-clause-exact : goal.returns-clause-exact
unfolding property_at
returns-clause-exact c =
    let early : c.args.place.late ≡ false = assumption in
    rw (c.in_ok-len.ensures.exact, c.in_ok-offset.ensures.exact, c.in_ok-value.ensures, early, c.in_ok-len-2.ensures) refl

pub returns-clause-fits : goal.returns-clause-fits
returns-clause-fits c = assumption
