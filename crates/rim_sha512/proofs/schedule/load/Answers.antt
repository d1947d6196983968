use Rattle.std.proofs.Common.{◌≡◌, List, ℕ, [], ◌∷◌, slice_index, refl, ap, ◌∙◌}
use Rattle.sha2.specs.Sha512.{first_words}
use Rattle.sha2.proofs.Schedule512.{IsWindow_first, slice_index-first_words}
use Rattle.sha_lanes.specs.inside.Pairs.{flat}
use Rattle.rim_sha512.proofs.schedule.load.Goals as goal

pub returns : goal.returns
unfolding first_words
returns c =
    let b = c.args.block.now in
    let w : List (List ℕ) = c.pair_at.result ∷ c.pair_at-2.result ∷ c.pair_at-3.result ∷ c.pair_at-4.result ∷ c.pair_at-5.result ∷ c.pair_at-6.result ∷
    c.pair_at-7.result ∷ c.pair_at-8.result ∷ [] in
    let same : flat 0 1 w ≡ first_words b 16 =
    rw (
      c.pair_at.ensures,
      c.pair_at-2.ensures,
      c.pair_at-3.ensures,
      c.pair_at-4.ensures,
      c.pair_at-5.ensures,
      c.pair_at-6.ensures,
      c.pair_at-7.ensures,
      c.pair_at-8.ensures,
    ) refl in
    IsWindow_first b (flat 0 1 w) refl (λ k lt. ap (λ (x : List ℕ). slice_index x k) same ∙ slice_index-first_words b 16 k lt)
