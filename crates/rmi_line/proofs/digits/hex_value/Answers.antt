use Rattle.std.proofs.Common.{◌≡◌, ℕ, zero, suc, ◌<◌, Bool, true, not, ◌&&◌, ◌||◌, inl, inr, List, get_or, refl, arith, eqb, ltb}
use Rattle.std.proofs.lemmas.Bool.{and_parts, cases_lt}
use Rattle.std.proofs.lemmas.Bool.Decides.{nat_tests}
use Rattle.hex.specs.Hex.{lower_digits}
use Rattle.rmi_line.specs.declared.digits.TheConstants.{VALUES}
use Rattle.rmi_line.proofs.digits.hex_value.Goals as goal

-- whether the value of a byte is none, or that of the digit that the byte is
abbrev is_valued : List ℕ → ℕ → Bool
is_valued table b = not (ltb (get_or table b 0) 16) || eqb (get_or lower_digits (get_or table b 0) 0) b

-- whether that holds of the first n bytes
abbrev all_valued : List ℕ → ℕ → Bool
all_valued table zero = true
all_valued table (suc n) = is_valued table n && all_valued table n

valued : (table : List ℕ) (n b : ℕ) → all_valued table n ≡ true → b < n → is_valued table b ≡ true
valued table zero b all below = absurd (omega arith)
valued table (suc n) b all below =
    let parts = and_parts (is_valued table n) (all_valued table n) all in
    elim (cases_lt b n) [
      | inl before ↦ valued table n b parts.1 before
      | inr at ↦ let last : b ≡ n = omega arith in rw last parts.0
    ]

digit_said : (v b d : ℕ) → (not (ltb v 16) || eqb d b) ≡ true → v < 16 → b ≡ d
digit_said v b d test small = grind (arith, nat_tests)

pub returns-clause-found : goal.returns-clause-found
returns-clause-found c = λ small. digit_said (get_or VALUES c.args.digit 0) c.args.digit (get_or lower_digits (get_or VALUES c.args.digit 0) 0) (valued VALUES 256 c.args.digit refl (omega arith)) small
