-- The hexadecimal digits of a number are found one after another, the last one first.
use Rattle.std.proofs.Common.{◌≡◌, ◌*◌, ◌/◌, ◌%◌, ◌^◌, ◌<◌, ◌≤◌, ℕ, zero, suc, true, false, eqb, List, [], ◌∷◌, ◌++◌, ap, arith, refl}
use Rattle.std.specs.Fmt.{digit_glyph, digits, digits_onto}
use Rattle.std.proofs.lemmas.Bool.{ne_eqb}
use Rattle.std.proofs.lemmas.Fmt.{hex_one_digit}

-- the digits of a number are those of what is left of it, before its last ones
pub record AreLast (number rest : ℕ) (last : List ℕ) : Type 0 where
  pub fuel : ℕ
  pub fits : rest < 16 * 16 ^ fuel
  pub digits : digits_onto (suc fuel) 16 false rest last ≡ digits 16 false number

pub last-begins : (number : ℕ) → number < 2 ^ 128 → AreLast number number []
unfolding digits
last-begins number fits = record { fuel = 63; fits = omega (arith, fits); digits = refl }

-- one digit more
pub last-goes-on : (number rest : ℕ) (last : List ℕ) → 16 ≤ rest → AreLast number rest last → AreLast number (rest / 16) (digits 16 false (rest % 16) ++ last)
last-goes-on number rest last more are = by_fuel are.fuel are.fits are.digits
  where
    by_fuel : (k : ℕ) → rest < 16 * 16 ^ k → digits_onto (suc k) 16 false rest last ≡ digits 16 false number → AreLast number (rest / 16) (digits 16 false (rest % 16) ++ last)
    by_fuel zero fits is = absurd (omega (arith, fits, more))
    by_fuel (suc k) fits is =
        let some : eqb (rest / 16) 0 ≡ false = ne_eqb (rest / 16) 0 (λ none. omega (arith, more, none)) in
        let one : digits 16 false (rest % 16) ≡ digit_glyph false (rest % 16) ∷ [] = hex_one_digit false (rest % 16) (omega arith) in
        record { fuel = k; fits = omega (arith, fits); digits = rw one (rw some at is) }

pub last-ends : (number rest : ℕ) (last : List ℕ) → rest < 16 → AreLast number rest last → digits 16 false rest ++ last ≡ digits 16 false number
last-ends number rest last few are =
    let none : eqb (rest / 16) 0 ≡ true = ap (λ (n : ℕ). eqb n 0) (let z : rest / 16 ≡ 0 = omega (arith, few) in z) in
    let same : rest % 16 ≡ rest = omega (arith, few) in
    let one : digits 16 false rest ≡ digit_glyph false rest ∷ [] = hex_one_digit false rest few in
    let whole : digit_glyph false (rest % 16) ∷ last ≡ digits 16 false number = rw none at are.digits in
    rw one (rw same at whole)
