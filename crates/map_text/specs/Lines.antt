-- Whole lines. This project's choice.
use Rattle.std.specs.Prelude.{ℕ, Bool, true, ◌==◌, List, [], ◌∷◌}

-- whether a text is whole lines: nothing, or with a line feed at its end
abbrev pub are_lines : List ℕ → Bool
are_lines [] = true
are_lines (b ∷ []) = b == 10
are_lines (b ∷ c ∷ rest) = are_lines (c ∷ rest)
