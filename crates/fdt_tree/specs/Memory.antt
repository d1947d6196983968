-- Setting where the memory is: Devicetree Specification 0.4, sections 2.2.1, 2.3.5, 2.3.6
-- and 3.4. Which node is edited, and what a new one holds, is this project's choice.
use Rattle.std.specs.Prelude.{ℕ, ◌^◌, List, [], ◌∷◌, ◌++◌, take, Bool, false, Option, Some, None, Result, Ok, Err, nat_lt, ◌==◌, ◌||◌, codes, if◌then◌else◌}
use Rattle.std.specs.Int.{w32, w64, to_be_bytes}
use Rattle.std.specs.Str.{bytes_eq}
use Rattle.std.specs.Fmt.{digits}
use Rattle.fdt_header.specs.declared.fault.FdtFault.{FdtFault}
use Rattle.fdt_header.specs.declared.fault.FdtFault.TheVariants.{BadCells}
use Rattle.fdt_tree.specs.Devicetree.{PropertyData, Branch, branch_of_root, Devicetree, bare}
use Rattle.fdt_tree.specs.Lookup.{first_value}
use Rattle.fdt_tree.specs.Edits.{value_put, first_such, with_root}
use Rattle.refusal.specs.Answer.{◌>>=◌}

-- how many cells (words of 4 bytes) the value of such a property asks for: one or two
abbrev pub cells_said : List ℕ → Result ℕ FdtFault
cells_said value =
    if bytes_eq value (to_be_bytes w32 1) then Ok 1 else (if bytes_eq value (to_be_bytes w32 2) then Ok 2 else Err BadCells)

-- where the property does not exist, the number that the specification presumes
abbrev pub cells_or : ℕ → Option (List ℕ) → Result ℕ FdtFault
cells_or presumed None = Ok presumed
cells_or presumed (Some value) = cells_said value

-- the number in one cell or in two
abbrev pub in_cells : ℕ → ℕ → Result (List ℕ) FdtFault
in_cells cells n =
    if cells == 1 then (if nat_lt n (2 ^ 32) then Ok (to_be_bytes w32 n) else Err BadCells) else Ok (to_be_bytes w64 n)

-- the value of `reg`
unfoldable pub reg_value : ℕ → ℕ → List PropertyData → Result (List ℕ) FdtFault
reg_value base size properties = do
  address_cells ← cells_or 2 (first_value (codes "#address-cells") properties)
  size_cells ← cells_or 1 (first_value (codes "#size-cells") properties)
  address ← in_cells address_cells base
  extent ← in_cells size_cells size
  Ok (address ++ extent)

-- `memory`, or a name that begins with `memory@`
abbrev pub names_memory : List ℕ → Bool
names_memory name = bytes_eq name (codes "memory") || bytes_eq (take 7 name) (codes "memory@")

-- `memory@` and the address in hexadecimal, without leading zeros
abbrev pub memory_name : ℕ → List ℕ
memory_name base = codes "memory@" ++ digits 16 false base

abbrev pub reg_put : List ℕ → Branch → Branch
reg_put reg b = value_put (codes "reg") reg b

abbrev pub new_memory : ℕ → List ℕ → Branch
new_memory base reg = reg_put reg (value_put (codes "device_type") (codes "memory" ++ 0 ∷ []) (bare (memory_name base)))

-- the root with this memory
abbrev pub memory_put : ℕ → List ℕ → Branch → Branch
memory_put base reg b = record b { children = first_such names_memory (reg_put reg) (new_memory base reg) b.children }

-- the tree with this memory, or the refusal
unfoldable pub set_memory_at : ℕ → ℕ → Devicetree → Result Devicetree FdtFault
set_memory_at base size t = do
  reg ← reg_value base size t.root.properties
  Ok (with_root t (memory_put base reg (branch_of_root t.root)))
