-- Descriptors, by their blocks.
use Rattle.std.proofs.Common.{◌≡◌, ℕ, ◌+◌, ◌*◌, ◌/◌, ◌≤◌, List, ◌++◌, length, take, drop, replicate, refl, sym, ap, ◌∙◌, arith, length-append, length-drop}
use Rattle.std.proofs.lemmas.List.{drop-append-le, drop-drop, drop-take, drop_all, length-take-le, take-append-le, take-take, take_all}
use Rattle.sha2.specs.Sha256.{compress, final_hash, hash_after, padding}
use Rattle.rim_sha256.proofs.MessageHashes.{hash_next, hash_padded}

module _ (ini m : List ℕ) (long : length m ≡ 128) where
  -- a head and as many zeros
  whole : List ℕ
  whole = m ++ replicate 128 0

  head_block : (a : ℕ) → a + 64 ≤ 128 → take 64 (drop a whole) ≡ take 64 (drop a m)
  unfolding whole
  head_block a fits =
      let room : 64 ≤ length (drop a m) = omega (arith, length-drop a m) in
      rw (drop-append-le a m (replicate 128 0) (omega arith)) (take-append-le 64 (drop a m) (replicate 128 0) room)

  tail_from : drop 128 whole ≡ replicate 128 0
  unfolding whole
  tail_from = drop-append-le 128 m (replicate 128 0) (omega arith) ∙ ap (λ (x : List ℕ). x ++ replicate 128 0) (drop_all 128 m (omega arith))

  -- a block of the whole, by what it is
  block : (i : ℕ) (b : List ℕ) → take 64 (drop (64 * i) whole) ≡ b → compress (hash_after ini whole i) b ≡ hash_after ini whole (i + 1)
  block i b e = ap (compress (hash_after ini whole i)) (sym e) ∙ hash_next ini whole i

  hash_none : hash_after ini whole 0 ≡ ini
  unfolding hash_after
  hash_none = refl

  pub hash_headed : compress (compress (compress (compress (compress ini (take 64 m)) (drop 64 m)) (replicate 64 0)) (replicate 64 0)) (padding 256)
      ≡ final_hash ini (m ++ replicate 128 0)
  unfolding whole
  hash_headed =
      let size : length whole ≡ 256 = length-append m (replicate 128 0) ∙ ap (λ (n : ℕ). n + 128) long in
      let second : take 64 (drop 64 whole) ≡ drop 64 m = head_block 64 (omega arith) ∙ take_all 64 (drop 64 m) (omega (arith, length-drop 64 m)) in
      let third : take 64 (drop 128 whole) ≡ replicate 64 0 = ap (take 64) tail_from in
      let fourth : take 64 (drop 192 whole) ≡ replicate 64 0 = ap (take 64) (sym (drop-drop 64 128 whole) ∙ ap (drop 64) tail_from) in
      let h1 : compress ini (take 64 m) ≡ hash_after ini whole 1 = ap (λ (h : List ℕ). compress h (take 64 m)) (sym hash_none)
      ∙ block 0 (take 64 m) (head_block 0 (omega arith)) in
      let count : 4 ≡ length whole / 64 = omega arith in
      let last : compress (hash_after ini whole 4) (padding 256) ≡ final_hash ini whole =
      ap (λ (n : ℕ). compress (hash_after ini whole n) (padding 256)) count
      ∙ ap (λ (n : ℕ). compress (hash_after ini whole (length whole / 64)) (padding n)) (sym size) ∙ hash_padded ini whole (omega arith) in
      rw (h1, block 1 (drop 64 m) second, block 2 (replicate 64 0) third, block 3 (replicate 64 0) fourth) last

-- the hash value of a descriptor whose last 128 bytes are zero
pub hash_of_headed : (ini d : List ℕ) → d ≡ take 128 d ++ replicate 128 0
    → compress (compress (compress (compress (compress ini (take 64 d)) (take 64 (drop 64 d))) (replicate 64 0)) (replicate 64 0)) (padding 256) ≡
    final_hash ini d
hash_of_headed ini d e =
    let head : List ℕ = take 128 d in
    let size : length d ≡ length head + 128 = ap length e ∙ length-append head (replicate 128 0) in
    let long : length head ≡ 128 = length-take-le 128 d (omega arith) in
    let first : take 64 head ≡ take 64 d = take-take 64 128 d (omega arith) in
    let second : drop 64 head ≡ take 64 (drop 64 d) = drop-take 64 64 d in
    rw (← first, ← second) (hash_headed ini head long) ∙ ap (final_hash ini) (sym e)
