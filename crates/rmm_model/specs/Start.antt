-- The start tables of a realm. DEN0137, RmiRealmParams, leaves a choice of level and number for some
-- widths; the one below, with at most 16 tables side by side, is this project's.
use Rattle.std.specs.Prelude.{ℕ, ◌+◌, ◌-◌, ◌*◌, ◌^◌, ◌&&◌, Bool, nat_le, if◌then◌else◌, Option, Some, None}
use Rattle.rmm_model.specs.declared.start.TheConstants.{LEAST_WIDTH, MOST_WIDTH}

-- the widths of an IPA, in bits, that a realm may have
abbrev pub is_width : ℕ → Bool
is_width s2sz = nat_le LEAST_WIDTH s2sz && nat_le s2sz MOST_WIDTH

-- the level of the start tables
abbrev pub start_level : ℕ → ℕ
start_level s2sz = if nat_le s2sz 34 then 2 else (if nat_le s2sz 43 then 1 else 0)

-- the number of start tables: one covers addresses of 12 + 9 * (4 - level) bits, and each bit
-- more doubles their number
abbrev pub start_count : ℕ → ℕ
start_count s2sz = 2 ^ (s2sz - (12 + 9 * (4 - start_level s2sz)))

-- level and number; none for a width that no realm has
abbrev pub start_of : ℕ → Option (ℕ × ℕ)
start_of s2sz = if is_width s2sz then Some (start_level s2sz, start_count s2sz) else None

-- the first address past the protected half. DEN0137, "Realm IPA space"
abbrev pub protected_end : ℕ → ℕ
protected_end s2sz = 2 ^ (s2sz - 1)
