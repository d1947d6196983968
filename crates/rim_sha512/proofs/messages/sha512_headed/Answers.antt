use Rattle.std.proofs.Common.{ℕ, List, replicate, refl, ap, ◌∙◌}
use Rattle.sha2.specs.Sha512.{compress, digest_bytes, first_words, initial_hash_512, padding, schedule, sha512}
use Rattle.rim_sha512.proofs.DescriptorHashes.{hash_of_two}
use Rattle.rim_sha512.proofs.messages.sha512_headed.Goals as goal

pub returns : goal.returns
unfolding sha512 first_words schedule
returns c =
    let m = c.args.head.now in
    let zero_block = replicate 128 0 in
    let s1 = c.compress_sums.ensures m c.all_sums.ensures in
    let s2 = c.compress_sums-2.ensures zero_block refl in
    let s3 = c.compress_sums-3.ensures (padding 256) refl in
    c.digest.ensures ∙ ap (λ (h : List ℕ). digest_bytes h 8)
    (s3 ∙ ap (λ (h : List ℕ). compress h (padding 256)) (s2 ∙ ap (λ (h : List ℕ). compress h zero_block) s1)
    ∙ hash_of_two initial_hash_512 m zero_block c.requires refl)
