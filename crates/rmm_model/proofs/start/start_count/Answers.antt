use Rattle.std.proofs.Common.{◌≤◌, ◌<◌, arith}
use Rattle.std.proofs.Math.Nat.{pow-le-pow_right}
use Rattle.std.proofs.lemmas.Bool.Decides.{nat_tests}
use Rattle.rmm_model.proofs.start.start_count.Goals as goal

pub returns-clause-most : goal.returns-clause-most
returns-clause-most c =
    let low : 0 < 2 = omega arith in
    let least : c.saturating_sub.result ≤ 4 = grind (arith, nat_tests) in
    rw c.two_to.ensures (pow-le-pow_right low least)
