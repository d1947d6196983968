use Rattle.std.proofs.Common.{arith}
use Rattle.sha_lanes.proofs.Pairs.{at_place512}
use Rattle.rim_sha512.proofs.schedule.four_steps.Goals as goal

pub returns : goal.returns
returns c b held =
    let s1 = c.step.ensures b held in
    let s2 = c.step-2.ensures b s1 in
    let s3 = c.step-3.ensures b (at_place512 b _ _ _ _ (omega arith) s2) in
    let s4 = c.step-4.ensures b (at_place512 b _ _ _ _ (omega arith) s3) in
    at_place512 b _ _ _ _ (omega arith) s4
