-- Ranges in order. This project's choice: RAM is kept as ranges of which none meets another.
use Rattle.std.specs.Prelude.{ℕ, Bool, true, ◌&&◌, nat_le, nat_lt, List, [], ◌∷◌}

-- whether each range has an address, and begins at `low` or where the one before it ends, or later
unfoldable pub are_apart : ℕ → List (ℕ × ℕ) → Bool
are_apart low [] = true
are_apart low (r ∷ rs) = nat_le low r.0 && nat_lt r.0 r.1 && are_apart r.1 rs
