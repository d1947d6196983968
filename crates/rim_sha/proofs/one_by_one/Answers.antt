use Rattle.std.proofs.Common.{[], arith}
use Rattle.sha2.specs.Sha256.{sha256}
use Rattle.sha_lanes.proofs.LaneByLane.{is_map}
use Rattle.rim_sha.proofs.one_by_one.Goals as goal

pub returns : goal.returns
returns g c = is_map [] sha256 c.args.descriptors.now c.each.out (omega (arith, c.each.invariant.0)) (λ k lt. c.each.invariant.1 k (omega arith))
