-- What the table of names keeps, and when bytes are too many. This project's choice.
use Rattle.std.specs.Prelude.{◌≡◌, ◌⊎◌, ℕ, ◌<◌, List, take, drop, Option, Some, None, if◌then◌else◌}
use Rattle.std.specs.Ordering.{nat_cmp}
use Rattle.std.specs.Cmp.Lexicographic.{slice_cmp}
use Rattle.std.specs.BTreeMap.{get_by}
use Rattle.fdt_header.specs.declared.fault.FdtFault.{FdtFault}
use Rattle.fdt_header.specs.declared.fault.FdtFault.TheVariants.{NoMemory, TooLarge}
use Rattle.fdt_tree.specs.declared.writing.names.NameTable.{NameTable}
use Rattle.fdt_tree.specs.declared.writing.names.KnownRange.{KnownRange}
use Rattle.fdt_tree.specs.Writing.{is_among, strings_text, offset_in}
use Rattle.fdt_header.specs.declared.header.TheConstants.{SIZE_LIMIT}

-- the offset of a name, if it is among the names
abbrev pub place_in : List (List ℕ) → List ℕ → Option ℕ
place_in names name = if is_among name names then Some (offset_in names name) else None

-- The table has these names in this order, and the offsets that it caches for ranges of the source are right.
pub record HasNames (source : List ℕ) (t : NameTable) (names : List (List ℕ)) : Type 0 where
  pub strings : t.strings.items ≡ strings_text names
  pub offsets : (name : List ℕ) → get_by (λ k. slice_cmp nat_cmp name k.items) t.offsets ≡ place_in names name
  pub ranges : (start : ℕ) (r : KnownRange) → get_by (nat_cmp start) t.ranges ≡ Some r
      → place_in names (take r.len (drop start source)) ≡ Some r.offset

-- the fault where memory was refused, or where these are too many bytes
abbrev pub TooMuch : FdtFault → ℕ → Type 0
TooMuch e n = (e ≡ NoMemory) ⊎ ((e ≡ TooLarge) × (SIZE_LIMIT < n))
