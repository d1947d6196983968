use Rattle.std.proofs.Common.{ℕ, List, [], slice_index_or, take, replicate, refl, ap, ◌∙◌}
use Rattle.sha2.specs.Sha512.{compress, first_words, initial_hash_512, padding, schedule}
use Rattle.rim_sha512.proofs.KnownBlocks.{zeros_sums}
use Rattle.rim_sha512.proofs.DescriptorHashes.{hash_of_headed}
use Rattle.rim_sha512.proofs.lanes.descriptors.headed_hashes.Goals as goal

pub returns : goal.returns
unfolding first_words schedule
returns g c j low headed =
    let d = slice_index_or c.args.descriptors.now j [] in
    let zero_block : List ℕ = replicate 128 0 in
    let s0 = c.initial-state.ensures j low in
    let s1 = c.compress.ensures j _ low (c.load_descriptors.ensures j low) ∙ ap (λ (h : List ℕ). compress h (take 128 d)) s0 in
    let s2 = c.compress_sums.ensures j zero_block low zeros_sums ∙ ap (λ (h : List ℕ). compress h zero_block) s1 in
    c.compress_sums-2.ensures j (padding 256) low refl ∙ ap (λ (h : List ℕ). compress h (padding 256)) s2 ∙ hash_of_headed initial_hash_512 d headed
