-- A number of 8 bits has one digit, two or three, and a space or the end of the line after them.
use Rattle.std.proofs.Common.{◌≡◌, ℕ, ◌+◌, ◌/◌, ◌%◌, ◌^◌, ◌<◌, ◌≤◌, ◌⊎◌, inl, inr, List, [], ◌∷◌, ◌++◌, get_or, refl, arith}
use Rattle.std.proofs.lemmas.Bool.{cases_lt}
use Rattle.std.proofs.lemmas.Bool.Decides.{nat_tests}
use Rattle.std.proofs.lemmas.Fmt.{decimal_digit, decimal_step}
use Rattle.std.specs.Fmt.{decimal}
use Rattle.std.specs.List.{flat_map}
use Rattle.rmi_line.specs.inside.Digits.{decimal_value}
use Rattle.rmi_line.specs.inside.Words.{spaced}

-- the value of the digit at a place of a rest that begins with a number
abbrev pub value_in : ℕ → List (List ℕ) → ℕ → ℕ
value_in n others place = decimal_value (get_or (flat_map spaced (decimal n ∷ others)) place 0)

digit : (d : ℕ) → d < 10 → decimal_value (48 + d) ≡ d
digit d small = grind (arith, nat_tests)

-- no digit is after a word
after : (others : List (List ℕ)) → decimal_value (get_or (flat_map spaced others) 0 0) ≡ 10
after [] = refl
after (word ∷ others) = refl

pub front_values : (n : ℕ) (others : List (List ℕ)) → n < 2 ^ 8
    → (((n < 10) × (value_in n others 1 ≡ n) × (value_in n others 2 ≡ 10))
    ⊎ ((10 ≤ n) × (value_in n others 1 ≡ n / 10) × (value_in n others 2 ≡ n % 10) × (value_in n others 3 ≡ 10)))
    ⊎ ((100 ≤ n) × (value_in n others 1 ≡ n / 10 / 10) × (value_in n others 2 ≡ n / 10 % 10) × (value_in n others 3 ≡ n % 10))
front_values n others fits = elim (cases_lt n 10) [
  | inl one ↦ inl (inl (
    one,
    rw (decimal_digit n one) (digit n one),
    rw (decimal_digit n one) (after others),
  ))
  | inr more ↦
      let two : decimal n ≡ decimal (n / 10) ++ ((48 + n % 10) ∷ []) = decimal_step n more (omega arith) in
      elim (cases_lt n 100) [
        | inl few ↦
            let high : n / 10 < 10 = omega arith in
            inl (inr (
              more,
              rw (two, decimal_digit (n / 10) high) (digit (n / 10) high),
              rw (two, decimal_digit (n / 10) high) (digit (n % 10) (omega arith)),
              rw (two, decimal_digit (n / 10) high) (after others),
            ))
        | inr many ↦
            let high : n / 10 / 10 < 10 = omega arith in
            let three : decimal (n / 10) ≡ decimal (n / 10 / 10) ++ ((48 + n / 10 % 10) ∷ []) =
            decimal_step (n / 10) (omega arith) (omega arith) in
            inr (
              many,
              rw (two, three, decimal_digit (n / 10 / 10) high) (digit (n / 10 / 10) high),
              rw (two, three, decimal_digit (n / 10 / 10) high) (digit (n / 10 % 10) (omega arith)),
              rw (two, three, decimal_digit (n / 10 / 10) high) (digit (n % 10) (omega arith)),
            )
      ]
]
