-- Descriptors, by their blocks.
use Rattle.std.proofs.Common.{◌≡◌, ℕ, ◌+◌, ◌*◌, ◌/◌, List, ◌++◌, length, take, drop, replicate, refl, sym, ap, ◌∙◌, arith, length-append, length-drop}
use Rattle.std.proofs.lemmas.List.{drop-append-le, drop_all, length-take-le, take-append-le, take-append-drop, take_all}
use Rattle.sha2.specs.Sha512.{compress, final_hash, hash_after, padding}
use Rattle.rim_sha512.proofs.MessageHashes.{hash_next, hash_padded}

-- two blocks
module _ (ini m n : List ℕ) (long : length m ≡ 128) (long-n : length n ≡ 128) where
  whole : List ℕ
  whole = m ++ n

  -- a block of the whole, by what it is
  block : (i : ℕ) (b : List ℕ) → take 128 (drop (128 * i) whole) ≡ b → compress (hash_after ini whole i) b ≡ hash_after ini whole (i + 1)
  block i b e = ap (compress (hash_after ini whole i)) (sym e) ∙ hash_next ini whole i

  hash_none : hash_after ini whole 0 ≡ ini
  unfolding hash_after
  hash_none = refl

  pub hash_of_two : compress (compress (compress ini m) n) (padding 256) ≡ final_hash ini (m ++ n)
  unfolding whole
  hash_of_two =
      let size : length whole ≡ 256 = length-append m n ∙ rw (long, long-n) refl in
      let first : take 128 (drop 0 whole) ≡ m = take-append-le 128 m n (omega arith) ∙ take_all 128 m (omega arith) in
      let tail : drop 128 whole ≡ n = drop-append-le 128 m n (omega arith) ∙ ap (λ (x : List ℕ). x ++ n) (drop_all 128 m (omega arith)) in
      let second : take 128 (drop 128 whole) ≡ n = rw tail (take_all 128 n (omega arith)) in
      let h1 : compress ini m ≡ hash_after ini whole 1 = ap (λ (h : List ℕ). compress h m) (sym hash_none) ∙ block 0 m first in
      let count : 2 ≡ length whole / 128 = omega arith in
      let last : compress (hash_after ini whole 2) (padding 256) ≡ final_hash ini whole =
      ap (λ (n : ℕ). compress (hash_after ini whole n) (padding 256)) count
      ∙ ap (λ (n : ℕ). compress (hash_after ini whole (length whole / 128)) (padding n)) (sym size) ∙ hash_padded ini whole (omega arith) in
      rw (h1, block 1 n second) last

-- a message of two blocks, by its blocks
pub hash_of_blocks : (ini d : List ℕ) → length d ≡ 256
    → compress (compress (compress ini (take 128 d)) (take 128 (drop 128 d))) (padding 256) ≡ final_hash ini d
hash_of_blocks ini d long =
    let second : take 128 (drop 128 d) ≡ drop 128 d = take_all 128 (drop 128 d) (omega (arith, length-drop 128 d)) in
    rw second (hash_of_two ini (take 128 d) (drop 128 d) (length-take-le 128 d (omega arith)) (omega (arith, length-drop 128 d)))
    ∙ ap (final_hash ini) (take-append-drop 128 d)

-- a message whose last 128 bytes are zero
pub hash_of_headed : (ini d : List ℕ) → d ≡ take 128 d ++ replicate 128 0
    → compress (compress (compress ini (take 128 d)) (replicate 128 0)) (padding 256) ≡ final_hash ini d
hash_of_headed ini d e =
    let head : List ℕ = take 128 d in
    let size : length d ≡ length head + 128 = ap length e ∙ length-append head (replicate 128 0) in
    let long : length head ≡ 128 = length-take-le 128 d (omega arith) in
    hash_of_two ini head (replicate 128 0) long refl ∙ ap (final_hash ini) (sym e)
