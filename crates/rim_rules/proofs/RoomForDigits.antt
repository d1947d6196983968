-- A number of at most 16 digits has room in 64 bits, digit by digit.
use Rattle.std.proofs.Common.{◌≡◌, ℕ, zero, suc, ◌+◌, ◌*◌, ◌^◌, ◌<◌, ◌≤◌, List, [], ◌∷◌, length, take, get_or, true, arith}
use Rattle.std.specs.Prelude.{◌&&◌, nat_le}
use Rattle.std.specs.Char.{digit_value, is_digit}
use Rattle.std.specs.List.{list_all}
use Rattle.std.specs.Str.Parse.{AllDigits, digits_value}
use Rattle.std.proofs.lemmas.Bool.{and_parts, leb-true, ltb-true}
use Rattle.std.proofs.lemmas.Int.Digits.{digits_value-lt, digits_value_more}
use Rattle.std.proofs.lemmas.List.{length-take-le}
use Rattle.std.proofs.Math.Nat.{pow-le-pow_left, pow-le-pow_right}
use Rattle.rim_rules.specs.Words.{are_digits}

AllDigits-from_list_all : (radix : ℕ) (text : List ℕ) → list_all (λ c. is_digit c radix) text ≡ true → AllDigits radix text
AllDigits-from_list_all radix [] e = tt
AllDigits-from_list_all radix (c ∷ cs) e =
    let parts = and_parts (is_digit c radix) (list_all (λ c. is_digit c radix) cs) e in
    (ltb-true _ _ parts.0, AllDigits-from_list_all radix cs parts.1)

all_taken : (radix k : ℕ) (text : List ℕ) → AllDigits radix text → AllDigits radix (take k text)
all_taken radix zero text h = tt
all_taken radix (suc k) [] h = tt
all_taken radix (suc k) (c ∷ cs) h = (h.0, all_taken radix k cs h.1)

-- the number that one more digit makes
pub room_for_digit : (radix : ℕ) (digits : List ℕ) (i : ℕ) → radix ≤ 16 → are_digits radix 16 digits ≡ true → i < length digits
    → digits_value radix (take i digits) * radix + digit_value (get_or digits i 0) < 2 ^ 64
room_for_digit radix digits i low e h =
    let tests = and_parts (nat_le 1 (length digits) && nat_le (length digits) 16) (list_all (λ c. is_digit c radix) digits) e in
    let most : length digits ≤ 16 = leb-true _ _ (and_parts (nat_le 1 (length digits)) (nat_le (length digits) 16) tests.0).1 in
    let below = digits_value-lt radix (take (i + 1) digits) (all_taken radix (i + 1) digits (AllDigits-from_list_all radix digits tests.1)) in
    let long : length (take (i + 1) digits) ≡ i + 1 = length-take-le (i + 1) digits (omega (arith, h)) in
    let as_hex : radix ^ (i + 1) ≤ 16 ^ (i + 1) = pow-le-pow_left low (i + 1) in
    let within : 16 ^ (i + 1) ≤ 16 ^ 16 = pow-le-pow_right (omega arith) {j = 16} (omega arith) in
    let value : digits_value radix (take (i + 1) digits) < radix ^ (i + 1) = rw long at below in
    omega (arith, digits_value_more radix digits i h)
