-- Which bytes a line shows as they are. This project's choice.
use Rattle.std.specs.Prelude.{ℕ, Bool, not, ◌&&◌, ◌||◌, ◌==◌, nat_le}

abbrev pub is_between : ℕ → ℕ → ℕ → Bool
is_between low high n = nat_le low n && nat_le n high

-- a byte that ends no line
abbrev pub is_inside : ℕ → Bool
is_inside b = not (b == 10)

-- a byte that a line shows as it is in any text: a sign or a letter of ASCII that is no `\`, or a byte of a character of
-- another script of which no character is invisible. What a line shows of others is tested alone.
abbrev pub is_plain : ℕ → Bool
is_plain b = not (b == 92) && not (b == 127) && (is_between 32 191 b || is_between 195 204 b || is_between 208 211 b || is_between 228 233 b)
