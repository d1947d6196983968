use Rattle.std.proofs.Common.{arith}
use Rattle.sha_lanes.proofs.Pairs.{at_place256}
use Rattle.rim_sha256.proofs.one.schedule.four_steps.Goals as goal

pub returns : goal.returns
returns c =
    record {
      first = λ b held.
          let s1 = c.step.ensures.first b held in
          let s2 = c.step-2.ensures.first b s1 in
          let s3 = c.step-3.ensures.first b (at_place256 0 1 b _ _ _ _ (omega arith) s2) in
          let s4 = c.step-4.ensures.first b (at_place256 0 1 b _ _ _ _ (omega arith) s3) in
          at_place256 0 1 b _ _ _ _ (omega arith) s4;
      second = λ b held.
          let s1 = c.step.ensures.second b held in
          let s2 = c.step-2.ensures.second b s1 in
          let s3 = c.step-3.ensures.second b (at_place256 2 3 b _ _ _ _ (omega arith) s2) in
          let s4 = c.step-4.ensures.second b (at_place256 2 3 b _ _ _ _ (omega arith) s3) in
          at_place256 2 3 b _ _ _ _ (omega arith) s4;
    }
