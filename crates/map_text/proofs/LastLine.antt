-- Whole lines.
use Rattle.std.proofs.Common.{◌≡◌, ℕ, true, List, [], ◌∷◌, ◌++◌, refl}
use Rattle.map_text.specs.Lines.{are_lines}

-- a text with a line feed at its end is whole lines
pub ends_lines : (text : List ℕ) → are_lines (text ++ 10 ∷ []) ≡ true
ends_lines [] = refl
ends_lines (b ∷ []) = refl
ends_lines (b ∷ c ∷ rest) = ends_lines (c ∷ rest)
