-- The IPA space of a realm: which tables it has, which pages are RAM, and which have data. DEN0137,
-- "Realm Translation Table" and RIPAS; that RAM is kept as ranges is this project's choice.
use Rattle.std.specs.Prelude.{◌≡◌, ℕ, ◌/◌, ◌<◌, ◌≤◌, max, nat_le, nat_lt, ◌==◌, ◌&&◌, cond, Bool, true, List, [], ◌∷◌}
use Rattle.std.specs.List.{list_all, list_any}
use Rattle.std.specs.Ordering.{nat_cmp, ordering_then}
use Rattle.std.specs.declared.cmp.Ordering.{Ordering}
use Rattle.std.specs.BTreeMap.{insert_entry}
use Rattle.std.specs.BTreeSet.{insert_key}
use Rattle.rmm_model.specs.declared.table.Table.{Table}
use Rattle.rmm_model.specs.Blocks.{down, span}

-- tables by level, and tables of one level by address
abbrev pub table_cmp : Table → Table → Ordering
table_cmp t u = ordering_then (nat_cmp t.level u.level) (nat_cmp t.base u.base)

pub record Space : Type 0 where
  -- the level of the start tables
  pub start : ℕ
  -- the first address past the protected half
  pub protected_end : ℕ
  -- the tables below the start tables, in the order of table_cmp
  pub tables : List Table
  -- the ranges that became RAM, by address: the first address of each and the first past it
  pub ram : List (ℕ × ℕ)
  -- the pages that have data, by address
  pub assigned : List ℕ

-- start tables alone
abbrev pub empty_space : ℕ → ℕ → Space
empty_space start protected_end = record { start = start; protected_end = protected_end; tables = []; ram = []; assigned = [] }

-- whether a table covers x
abbrev pub covers : Table → ℕ → Bool
covers t x = x / span t.level == t.base / span t.level

-- The level at which the walk of x ends: the greatest level of a table that covers x, else the start
-- level. DEN0137, "RTT walk".
unfoldable pub walk : ℕ → List Table → ℕ → ℕ
walk start [] x = start
walk start (t ∷ ts) x = cond (covers t x) (max t.level (walk start ts x)) (walk start ts x)

-- whether the table of that level and first address is made
abbrev pub made : List Table → ℕ → ℕ → Bool
made ts level base = list_any (λ t. t.level == level && t.base == base) ts

-- each table is below the start level, and its first address is a multiple of what it covers
pub record ArePlaced (start : ℕ) (ts : List Table) : Type 0 where
  pub shape : (level base : ℕ) → made ts level base ≡ true → (start < level) × (level ≤ 3) × (down (span level) base ≡ base)

-- whether a table of a level has its first address in the range
abbrev pub has_table_in : List Table → ℕ → ℕ → ℕ → Bool
has_table_in ts level base top = list_any (λ t. t.level == level && (nat_le base t.base && nat_lt t.base top)) ts

-- whether a table of a deeper level has its first address in the range
abbrev pub deeper : List Table → ℕ → ℕ → ℕ → Bool
deeper ts level base top = list_any (λ t. nat_lt level t.level && (nat_le base t.base && nat_lt t.base top)) ts

-- whether x is RAM: a range that became RAM covers it
abbrev pub is_ram : List (ℕ × ℕ) → ℕ → Bool
is_ram ram x = list_any (λ r. nat_le r.0 x && nat_lt x r.1) ram

-- whether some address from base on and below top is RAM, by the ends of the ranges
abbrev pub overlaps : List (ℕ × ℕ) → ℕ → ℕ → Bool
overlaps ram base top = list_any (λ r. nat_lt r.0 top && nat_lt base r.1) ram

-- whether each range has an address
abbrev pub are_some : List (ℕ × ℕ) → Bool
are_some ram = list_all (λ r. nat_lt r.0 r.1) ram

-- whether an address is in a list
abbrev pub has : List ℕ → ℕ → Bool
has xs x = list_any (λ y. y == x) xs

-- the space with one more table
abbrev pub after_table : Space → ℕ → ℕ → Space
after_table s level base = record s { tables = insert_key table_cmp s.tables (record { level = level; base = base }) }

-- the space after a range became RAM
abbrev pub after_run : Space → ℕ → ℕ → Space
after_run s base top = record s { ram = insert_entry nat_cmp s.ram base top }

-- the space after a page got data
abbrev pub after_page : Space → ℕ → Space
after_page s x = record s { assigned = insert_key nat_cmp s.assigned x }

-- the same tables, in whatever order
abbrev pub SameTables : List Table → List Table → Type 0
SameTables ts us = (level base : ℕ) → made ts level base ≡ made us level base

-- Two spaces that agree in all that a command asks of a space: whatever the order in which tables and pages
-- are kept, and the pieces in which RAM is.
pub record SameSpace (s t : Space) : Type 0 where
  pub start : s.start ≡ t.start
  pub protected_end : s.protected_end ≡ t.protected_end
  pub tables : SameTables s.tables t.tables
  -- which addresses are RAM
  pub ram : (x : ℕ) → is_ram s.ram x ≡ is_ram t.ram x
  -- which ranges have RAM
  pub ranges : (base top : ℕ) → base < top → overlaps s.ram base top ≡ overlaps t.ram base top
  -- which pages have data
  pub assigned : (x : ℕ) → has s.assigned x ≡ has t.assigned x
