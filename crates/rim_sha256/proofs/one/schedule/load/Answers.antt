use Rattle.std.proofs.Common.{◌≡◌, List, ℕ, [], ◌∷◌, slice_index, refl, ap, ◌∙◌}
use Rattle.sha2.specs.Sha256.{first_words}
use Rattle.sha2.proofs.Schedule256.{IsWindow_first, slice_index-first_words}
use Rattle.sha_lanes.specs.inside.Pairs.{flat}
use Rattle.rim_sha256.proofs.one.schedule.load.Goals as goal

pub returns : goal.returns
unfolding first_words
returns c =
    let w : List (List ℕ) = c.pairs_at.result ∷ c.pairs_at-2.result ∷ c.pairs_at-3.result ∷ c.pairs_at-4.result ∷ c.pairs_at-5.result ∷ c.pairs_at-6.result ∷
    c.pairs_at-7.result ∷ c.pairs_at-8.result ∷ [] in
    let a = c.args.a.now in
    let b = c.args.b.now in
    record {
      first =
          let same : flat 0 1 w ≡ first_words a 16 =
          rw (
            c.pairs_at.ensures,
            c.pairs_at-2.ensures,
            c.pairs_at-3.ensures,
            c.pairs_at-4.ensures,
            c.pairs_at-5.ensures,
            c.pairs_at-6.ensures,
            c.pairs_at-7.ensures,
            c.pairs_at-8.ensures,
          ) refl in
          IsWindow_first a (flat 0 1 w) refl (λ k lt. ap (λ (x : List ℕ). slice_index x k) same ∙ slice_index-first_words a 16 k lt);
      second =
          let same : flat 2 3 w ≡ first_words b 16 =
          rw (
            c.pairs_at.ensures,
            c.pairs_at-2.ensures,
            c.pairs_at-3.ensures,
            c.pairs_at-4.ensures,
            c.pairs_at-5.ensures,
            c.pairs_at-6.ensures,
            c.pairs_at-7.ensures,
            c.pairs_at-8.ensures,
          ) refl in
          IsWindow_first b (flat 2 3 w) refl (λ k lt. ap (λ (x : List ℕ). slice_index x k) same ∙ slice_index-first_words b 16 k lt);
    }
