-- Each byte is spelled by the pair of digits at its place.
use Rattle.std.proofs.Common.{◌+◌, inl, inr, set, get_or-set_other, get_or-set_same, ◌≢◌, ap, ◌∙◌, sym, ◌≡◌, ℕ, zero, suc, ◌*◌, ◌/◌, ◌%◌, ◌<◌, List, [], ◌∷◌, length, get_or, refl, arith}
use Rattle.std.proofs.lemmas.Bool.{cases_lt}
use Rattle.hex.specs.Hex.{encode_with}

-- the first n pairs spell the first n bytes, by the digits of a table
abbrev pub ArePairs : List ℕ → List ℕ → List ℕ → ℕ → Type 0
ArePairs table digits bytes n = (k j : ℕ) → j ≡ 2 * k → k < n
    → (get_or digits j 0 ≡ get_or table (get_or bytes k 0 / 16) 0) × (get_or digits (suc j) 0 ≡ get_or table (get_or bytes k 0 % 16) 0)

pub encode_with-pairs : (table bytes : List ℕ) → ArePairs table (encode_with table bytes) bytes (length bytes)
unfolding encode_with
encode_with-pairs table [] k j twice below = absurd (omega arith)
encode_with-pairs table (b ∷ bytes) zero zero twice below = (refl, refl)
encode_with-pairs table (b ∷ bytes) zero (suc j) twice below = absurd (omega arith)
encode_with-pairs table (b ∷ bytes) (suc k) zero twice below = absurd (omega arith)
encode_with-pairs table (b ∷ bytes) (suc k) (suc zero) twice below = absurd (omega arith)
encode_with-pairs table (b ∷ bytes) (suc k) (suc (suc j)) twice below = encode_with-pairs table bytes k j (omega arith) (omega arith)

pub pairs-encode_with : (table digits bytes : List ℕ) → length digits ≡ 2 * length bytes → ArePairs table digits bytes (length bytes)
    → digits ≡ encode_with table bytes
unfolding encode_with
pairs-encode_with table [] [] twice pairs = refl
pairs-encode_with table (d ∷ digits) [] twice pairs = absurd (omega arith)
pairs-encode_with table [] (b ∷ bytes) twice pairs = absurd (omega arith)
pairs-encode_with table (d ∷ []) (b ∷ bytes) twice pairs = absurd (omega arith)
pairs-encode_with table (d ∷ e ∷ digits) (b ∷ bytes) twice pairs =
    let first = pairs 0 0 refl (omega arith) in
    rw (
      first.0,
      first.1,
      pairs-encode_with table digits bytes (omega arith)
          (λ k j even below. pairs (suc k) (suc (suc j)) (omega arith) (omega arith)),
    ) refl

-- one more pair, and the byte that it spells
pub pairs_more : (table digits bytes : List ℕ) (i high low : ℕ) → i < length bytes → high < 16 → low < 16
    → get_or digits (2 * i) 0 ≡ get_or table high 0 → get_or digits (2 * i + 1) 0 ≡ get_or table low 0
    → ArePairs table digits bytes i → ArePairs table digits (set bytes i (16 * high + low)) (i + 1)
pairs_more table digits bytes i high low within h l first second pairs k j twice below = elim (cases_lt k i) [
  | inl before ↦
      let other : k ≢ i = omega arith in
      rw (get_or-set_other) (pairs k j twice before)
  | inr at ↦
      let here : k ≡ i = omega arith in
      let place : j ≡ 2 * i = omega arith in
      let next : suc j ≡ 2 * i + 1 = omega arith in
      let byte : get_or (set bytes i (16 * high + low)) k 0 ≡ 16 * high + low =
      ap (λ n. get_or (set bytes i (16 * high + low)) n 0) here ∙ get_or-set_same bytes i (16 * high + low) 0 within in
      let upper : get_or (set bytes i (16 * high + low)) k 0 / 16 ≡ high = omega (arith, byte) in
      let lower : get_or (set bytes i (16 * high + low)) k 0 % 16 ≡ low = omega (arith, byte) in (
        ap (λ n. get_or digits n 0) place ∙ first ∙ sym (ap (λ n. get_or table n 0) upper),
        ap (λ n. get_or digits n 0) next ∙ second ∙ sym (ap (λ n. get_or table n 0) lower),
      )
]
