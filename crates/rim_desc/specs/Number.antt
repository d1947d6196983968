-- Numbers as the project's texts print them. This project's choice.
use Rattle.std.specs.Prelude.{ℕ, List}
use Rattle.std.specs.Int.{to_be_bytes, w64}
use Rattle.hex.specs.Hex.{encode_lower}

-- a 64-bit number as 16 lower case hexadecimal digits
abbrev pub digits_of : ℕ → List ℕ
digits_of n = encode_lower (to_be_bytes w64 n)
