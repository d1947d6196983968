-- Messages of whole blocks.
use Rattle.std.proofs.Common.{◌≡◌, ℕ, ◌+◌, ◌*◌, ◌/◌, ◌%◌, List, ◌++◌, length, take, drop, refl, sym, arith, length-append}
use Rattle.std.proofs.lemmas.List.{drop-append-le, drop_all, take_all}
use Rattle.sha2.specs.Sha256.{compress, final_hash, hash_after, padding}
use Rattle.sha2.proofs.Absorbing256.{hash_after-append, hash_after_next}

-- the next block of a message
pub hash_next : (ini m : List ℕ) (i : ℕ) → compress (hash_after ini m i) (take 64 (drop (64 * i) m)) ≡ hash_after ini m (i + 1)
hash_next ini m i =
    let e : 64 * i ≡ i * 64 = omega arith in
    rw e (sym (hash_after_next ini m i))

length-padding : (n : ℕ) → n % 64 ≡ 0 → length (padding n) ≡ 64
length-padding n whole = rw whole refl

-- a message of whole blocks, once its padding is taken in
pub hash_padded : (ini m : List ℕ) → length m % 64 ≡ 0 → compress (hash_after ini m (length m / 64)) (padding (length m)) ≡ final_hash ini m
hash_padded ini m whole =
    let p = padding (length m) in
    let q = length m / 64 in
    let room : length p ≡ 64 = length-padding (length m) whole in
    let long : length (m ++ p) ≡ length m + length p = length-append m p in
    let count : length (m ++ p) / 64 ≡ q + 1 = omega arith in
    let rest : drop (q * 64) (m ++ p) ≡ p = rw (drop-append-le (q * 64) m p (omega arith), drop_all (q * 64) m (omega arith)) refl in
    let last : take 64 (drop (q * 64) (m ++ p)) ≡ p = rw rest (take_all 64 p (omega arith)) in
    rw (count, hash_after_next ini (m ++ p) q, hash_after-append ini m p q (omega arith), last) refl
