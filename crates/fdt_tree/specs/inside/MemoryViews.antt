-- The bytes of a number in one cell or two: Devicetree Specification 0.4, sections 2.2.4 and 2.3.5.
use Rattle.std.specs.Prelude.{ℕ, List}
use Rattle.std.specs.Int.{w32, w64, to_be_bytes}
use Rattle.fdt_tree.specs.declared.edits.memory.Cells.{Cells}
use Rattle.fdt_tree.specs.declared.edits.memory.Cells.TheVariants.{One, Two}

abbrev pub cells_text : Cells → List ℕ
cells_text (One n) = to_be_bytes w32 n
cells_text (Two n) = to_be_bytes w64 n
