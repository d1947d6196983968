use Rattle.std.proofs.Common.{ℕ, List, [], slice_index_or, ap, ◌∙◌, arith}
use Rattle.sha2.specs.Sha512.{digest_bytes, sha512}
use Rattle.sha_lanes.proofs.LaneByLane.{four_places, is_map}
use Rattle.rim_sha.proofs.sha512_four_descriptors.Goals as goal

pub returns-then-have_zero_tails : goal.returns-then-have_zero_tails
unfolding sha512
returns-then-have_zero_tails c =
    is_map [] sha512 c.args.descriptors.now c.digests.result (omega arith)
    (λ k lt. c.digests.ensures k (omega arith)
    ∙ ap (λ (h : List ℕ). digest_bytes h 8) (c.headed_hashes.ensures k (omega arith) (c.have_zero_tails.ensures c.if-have_zero_tails.true k [] lt)))

pub returns-else-have_zero_tails : goal.returns-else-have_zero_tails
unfolding sha512
returns-else-have_zero_tails c =
    is_map [] sha512 c.args.descriptors.now c.digests-else-have_zero_tails.result (omega arith) (λ k lt.
    let same = ap (λ (ds : List (List ℕ)). slice_index_or ds k []) (four_places [] c.args.descriptors.now c.told-descriptors) in
    c.digests-else-have_zero_tails.ensures k (omega arith) ∙ ap (λ (h : List ℕ). digest_bytes h 8) (c.hashes_of_two.ensures k (omega arith)) ∙ ap sha512 same)
