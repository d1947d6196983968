-- Words: numbers that a manifest writes as whole numbers, or as texts of hexadecimal digits. This project's choice.
use Rattle.std.specs.Prelude.{ℕ, Bool, ◌&&◌, pos, nat_le, List, length, take, drop, Option, Some, None, is_some, codes, if◌then◌else◌}
use Rattle.std.specs.Char.{is_digit}
use Rattle.std.specs.List.{list_all}
use Rattle.std.specs.Str.{bytes_eq}
use Rattle.std.specs.Str.Parse.{digits_value}
use Rattle.toml.specs.Data.{Data, string, integer}

-- what follows these first bytes in a text that begins with them
abbrev pub after : List ℕ → List ℕ → Option (List ℕ)
after first text = if bytes_eq (take (length first) text) first then Some (drop (length first) text) else None

-- 1 to `most` digits of a radix
abbrev pub are_digits : ℕ → ℕ → List ℕ → Bool
are_digits radix most text = nat_le 1 (length text) && nat_le (length text) most && list_all (λ c. is_digit c radix) text

-- the number of 1 to 16 hexadecimal digits
abbrev pub hex_number : Option (List ℕ) → Option ℕ
hex_number (Some digits) = if are_digits 16 16 digits then Some (digits_value 16 digits) else None
hex_number None = None

-- the number that a value spells as a word: a whole number, or a text `0x` and hexadecimal digits
abbrev pub word_of : Data → Option ℕ
word_of (integer (pos n)) = Some n
word_of (string text) = hex_number (after (codes "0x") text)
word_of _ = None

abbrev pub is_word : Data → Bool
is_word d = is_some (word_of d)
