use Rattle.std.proofs.Common.{◌≡◌, ℕ, List, take, drop, replicate, refl, ap, ◌∙◌}
use Rattle.sha2.specs.Sha256.{compress, digest_bytes, first_words, initial_hash_256, padding, schedule, sha256}
use Rattle.rim_sha256.proofs.KnownBlocks.{zeros_sums}
use Rattle.rim_sha256.proofs.DescriptorHashes.{hash_headed}
use Rattle.rim_sha256.proofs.one.headed.sha256_headed.Goals as goal

pub returns : goal.returns
unfolding sha256 first_words schedule
returns c =
    let m = c.args.head.now in
    let zero_block = replicate 64 0 in
    let s1 : c.compress_sums.new.state ≡ compress initial_hash_256 (take 64 m) =
    c.compress_sums.ensures _ c.all_sums.ensures.first ∙ ap (compress initial_hash_256) c.split_at.ensures.front in
    let s2 : c.compress_sums-2.new.state ≡ compress c.compress_sums.new.state (drop 64 m) =
    c.compress_sums-2.ensures _ c.all_sums.ensures.second ∙ ap (compress c.compress_sums.new.state) c.split_at.ensures.back in
    let s3 = c.compress_sums-3.ensures zero_block zeros_sums in
    let s4 = c.compress_sums-4.ensures zero_block zeros_sums in
    let s5 = c.compress_sums-5.ensures (padding 256) refl in
    let after_zeros = λ (h : List ℕ). compress h zero_block in
    c.digest.ensures ∙ ap (λ (h : List ℕ). digest_bytes h 8)
    (s5 ∙ ap (λ (h : List ℕ). compress h (padding 256)) (s4 ∙ ap after_zeros (s3 ∙ ap after_zeros
    (s2 ∙ ap (λ (h : List ℕ). compress h (drop 64 m)) s1)))
    ∙ hash_headed initial_hash_256 m c.requires)
