use Rattle.std.proofs.Common.{◌≡◌, ℕ, ◌≤◌, List, [], map, ap, ◌∙◌, arith, length}
use Rattle.std.proofs.lemmas.List.{length-map}
use Rattle.std.proofs.lemmas.Simd.{map-map}
use Rattle.std.specs.Borrow.{Bor}
use Rattle.sha2.specs.Sha256.{digest_bytes, sha256}
use Rattle.sha_lanes.proofs.LaneByLane.{is_map, of_message}
use Rattle.rim_sha256.proofs.lanes.messages.digests_of.Goals as goal

pub final_hashes-requires : goal.final_hashes-requires
final_hashes-requires g c =
    let lanes : g.row.N ≤ 64 = c.requires.lanes in
    let sizes = of_message (λ m. length m ≡ c.args.size) c.args.messages.now c.requires.size in
    (omega (arith, lanes), (omega (arith, lanes), (lanes, (c.requires.count, (λ j low. sizes j (omega (arith, c.requires.count)), c.requires.whole)))))

pub returns : goal.returns
unfolding sha256
returns g c =
    let bytes : List (List ℕ) = map (λ (m : Bor (List ℕ)). m.now) c.args.messages.now in
    let size : length bytes ≡ g.row.N = omega (arith, c.requires.count, length-map c.args.messages.now (λ (m : Bor (List ℕ)). m.now)) in
    is_map [] sha256 bytes c.digests.result (omega (arith, size))
    (λ k lt. c.digests.ensures k (omega (arith, size)) ∙ ap (λ (h : List ℕ). digest_bytes h 8) (c.final_hashes.ensures k (omega (arith, size))))
    ∙ map-map sha256 (λ (m : Bor (List ℕ)). m.now) c.args.messages.now
