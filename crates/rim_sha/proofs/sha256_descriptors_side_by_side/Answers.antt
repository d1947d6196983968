use Rattle.std.proofs.Common.{ℕ, List, [], ap, ◌∙◌, arith}
use Rattle.sha2.specs.Sha256.{digest_bytes, sha256}
use Rattle.sha_lanes.proofs.LaneByLane.{is_map}
use Rattle.rim_sha.proofs.sha256_descriptors_side_by_side.Goals as goal

pub returns-then-have_zero_tails : goal.returns-then-have_zero_tails
unfolding sha256
returns-then-have_zero_tails g c =
    is_map [] sha256 c.args.descriptors.now c.digests.result (omega arith)
    (λ k lt. c.digests.ensures k (omega arith)
    ∙ ap (λ (h : List ℕ). digest_bytes h 8) (c.headed_hashes.ensures k (omega arith) (c.have_zero_tails.ensures c.if-have_zero_tails.true k [] lt)))
