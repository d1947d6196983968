use Rattle.std.proofs.Common.{ℕ, List, [], slice_index_or, take, drop, replicate, refl, ap, ◌∙◌}
use Rattle.sha2.specs.Sha256.{compress, first_words, initial_hash_256, padding, schedule}
use Rattle.rim_sha256.proofs.KnownBlocks.{zeros_sums}
use Rattle.rim_sha256.proofs.DescriptorHashes.{hash_of_headed}
use Rattle.rim_sha256.proofs.lanes.descriptors.headed_hashes.Goals as goal

pub returns : goal.returns
unfolding first_words schedule
returns g c j low headed =
    let d = slice_index_or c.args.descriptors.now j [] in
    let zero_block : List ℕ = replicate 64 0 in
    let after_zeros : List ℕ → List ℕ = λ (h : List ℕ). compress h zero_block in
    let s0 = c.initial-state.ensures j low in
    let s1 = c.compress.ensures j _ low (c.load_descriptors.ensures j low) ∙ ap (λ (h : List ℕ). compress h (take 64 d)) s0 in
    let s2 = c.compress-2.ensures j _ low (c.load_descriptors-2.ensures j low) ∙ ap (λ (h : List ℕ). compress h (take 64 (drop 64 d))) s1 in
    let s3 = c.compress_sums.ensures j zero_block low zeros_sums ∙ ap after_zeros s2 in
    let s4 = c.compress_sums-2.ensures j zero_block low zeros_sums ∙ ap after_zeros s3 in
    c.compress_sums-3.ensures j (padding 256) low refl ∙ ap (λ (h : List ℕ). compress h (padding 256)) s4 ∙ hash_of_headed initial_hash_256 d headed
