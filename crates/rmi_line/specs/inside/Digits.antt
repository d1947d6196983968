-- What a decimal digit says. This project's choice.
use Rattle.std.specs.Prelude.{ℕ, ◌-◌, ◌&&◌, nat_le, if◌then◌else◌}

-- the value of a decimal digit, or 10 for another byte
abbrev pub decimal_value : ℕ → ℕ
decimal_value b = if nat_le 48 b && nat_le b 57 then b - 48 else 10
