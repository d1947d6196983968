-- Which bytes spell a devicetree, and why others are refused: Devicetree Specification 0.4, chapter 5. The order of the
-- refusals is this project's choice.
use Rattle.std.specs.Prelude.{◌≡◌, ◌⊎◌, ℕ, List, Result, Ok, Option, Some}
use Rattle.std.specs.Result.{result_err}
use Rattle.fdt_header.specs.declared.fault.FdtFault.{FdtFault}
use Rattle.fdt_header.specs.declared.fault.FdtFault.TheVariants.{NoMemory}
use Rattle.fdt_header.specs.declared.header.Header.{Header}
use Rattle.fdt_tree.specs.declared.tree.Reservation.{Reservation}
use Rattle.fdt_tree.specs.Devicetree.{Devicetree, Token, root_tokens}
use Rattle.fdt_header.specs.Blocks.{HasHeader, reserve_block, structure_block, strings_block, header_at}
use Rattle.fdt_tree.specs.Reservations.{SpellsReservations, reservations_at}
use Rattle.fdt_tree.specs.Grammar.{SpellsRoot}
use Rattle.fdt_tree.specs.Scanning.{structure_at}
use Rattle.refusal.specs.Answer.{◌>>=◌}

-- The bytes spell the tree in the flattened format (Devicetree Specification 0.4, chapter 5).
pub record Spells (bytes : List ℕ) (t : Devicetree) : Type 0 where
  pub header : Header
  pub sound : HasHeader bytes header
  pub boot_cpu : t.boot_cpu ≡ header.boot_cpuid_phys
  pub reservations : SpellsReservations (reserve_block header bytes) t.reservations
  pub root : SpellsRoot (strings_block header bytes) (structure_block header bytes) t.root

-- what the three blocks hold
pub record Parts : Type 0 where
  pub reservations : List Reservation
  pub boot_cpu : ℕ
  pub tokens : List Token

abbrev pub parts_of : Devicetree → Parts
parts_of t = record { reservations = t.reservations; boot_cpu = t.boot_cpu; tokens = root_tokens t.root }

-- the checks in their order: the header, the reservations, the structure block
unfoldable pub parts_at : List ℕ → Result Parts FdtFault
parts_at bytes = do
  header ← header_at bytes
  reservations ← reservations_at (reserve_block header bytes)
  tokens ← structure_at (strings_block header bytes) (structure_block header bytes)
  Ok (record { reservations = reservations; boot_cpu = header.boot_cpuid_phys; tokens = tokens })

-- the first check that fails, or none
abbrev pub refusal_of : List ℕ → Option FdtFault
refusal_of bytes = result_err (parts_at bytes)

-- an error is `NoMemory`, or the refusal
abbrev pub IsRefusal : FdtFault → Option FdtFault → Type 0
IsRefusal e refusal = (e ≡ NoMemory) ⊎ (refusal ≡ Some e)
