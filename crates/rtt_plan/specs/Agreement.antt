-- What is known of the tables and the RAM of a plan between two blocks. DEN0137, RMI_RTT_CREATE: a table
-- is made below one that was made before; that tables are made for RAM alone is this project's choice.
use Rattle.std.specs.Prelude.{◌≡◌, ℕ, suc, ◌/◌, ◌<◌, List, true, false}
use Rattle.rmm_model.specs.Blocks.{down, size, span}
use Rattle.rmm_model.specs.Space.{ArePlaced, is_ram, made}
use Rattle.rmm_model.specs.declared.table.Table.{Table}

-- each table is where it may be, and the table above it is made
pub record IsFormed (start : ℕ) (ts : List Table) : Type 0 where
  pub placed : ArePlaced start ts
  pub chain : (level base : ℕ) → made ts (suc level) base ≡ true → start < level → made ts level (down (span level) base) ≡ true

-- each table covers an address that is RAM
pub record IsUsed (ts : List Table) (ram : List (ℕ × ℕ)) : Type 0 where
  pub used : (level base : ℕ) → made ts level base ≡ true → (y : ℕ) × (is_ram ram y ≡ true) × (y / span level ≡ base / span level)

-- no address of the block of a level that holds x is RAM
abbrev pub IsFresh : List (ℕ × ℕ) → ℕ → ℕ → Type 0
IsFresh ram level x = (y : ℕ) → y / size level ≡ x / size level → is_ram ram y ≡ false
