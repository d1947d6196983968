use Rattle.std.proofs.Common.{rules, ℕ, [], arith}
use Rattle.sha2.specs.Sha256.{digest_bytes}
use Rattle.sha_lanes.specs.inside.Lanes.{lane}
use Rattle.sha_lanes.proofs.LaneByLane.{set_next}
use Rattle.rim_sha256.proofs.lanes.messages.digests.Goals as goal

pub lanes-preserved : goal.lanes-preserved
lanes-preserved g c = (
  search rules,
  set_next [] (λ (k : ℕ). digest_bytes (lane k c.args.hashes.now) 8) c.lanes.out c.lanes.j c.digest.result
      (omega (arith, c.lanes.invariant.0)) c.digest.ensures c.lanes.invariant.1,
)
