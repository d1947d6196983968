use Rattle.std.proofs.Common.{ℕ, List, take, drop, refl, ap, ◌∙◌}
use Rattle.sha2.specs.Sha512.{compress, first_words, initial_hash_512, padding, schedule}
use Rattle.sha_lanes.specs.inside.Lanes.{message}
use Rattle.rim_sha512.proofs.DescriptorHashes.{hash_of_blocks}
use Rattle.rim_sha512.proofs.lanes.descriptors.hashes_of_two.Goals as goal

pub returns : goal.returns
unfolding first_words schedule
returns g c j low =
    let d = message c.args.messages.now j in
    let s0 = c.initial-state.ensures j low in
    let s1 = c.compress.ensures j _ low (c.load.ensures j low) ∙ ap (λ (h : List ℕ). compress h (take 128 d)) s0 in
    let s2 = c.compress-2.ensures j _ low (c.load-2.ensures j low) ∙ ap (λ (h : List ℕ). compress h (take 128 (drop 128 d))) s1 in
    c.compress_sums.ensures j (padding 256) low refl ∙ ap (λ (h : List ℕ). compress h (padding 256)) s2
    ∙ hash_of_blocks initial_hash_512 d (c.requires.size j low)
