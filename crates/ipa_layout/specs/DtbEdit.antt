-- The edits of a devicetree before it is placed. The node /chosen and its property bootargs: Devicetree
-- Specification 0.4, section 3.6; its properties on the initrd are those that Linux reads. The order of
-- the edits is this project's choice.
use Rattle.std.specs.Prelude.{ℕ, ◌-◌, List, [], ◌∷◌, ◌++◌, Option, Some, None, Result, Ok, codes}
use Rattle.std.specs.Int.{w64, to_be_bytes}
use Rattle.fdt_header.specs.declared.fault.FdtFault.{FdtFault}
use Rattle.fdt_tree.specs.Devicetree.{Devicetree}
use Rattle.fdt_tree.specs.TreeAt.{tree_at}
use Rattle.fdt_tree.specs.Edits.{set_at}
use Rattle.fdt_tree.specs.Memory.{set_memory_at}
use Rattle.fdt_tree.specs.Writing.{file_of}
use Rattle.ipa_layout.specs.declared.dtb_edit.Span.{Span}
use Rattle.rim_launch.specs.declared.item.Region.{Region}
use Rattle.refusal.specs.Answer.{◌>>=◌}

-- what it is to have, if anything: the command line, the addresses of the initrd's bytes, and the first
-- region of RAM
pub record EditData : Type 0 where
  pub bootargs : Option (List ℕ)
  pub initrd : Option Span
  pub memory : Option Region

abbrev pub no_edits : EditData
no_edits = record { bootargs = None; initrd = None; memory = None }

-- a property of /chosen
abbrev pub chosen : List ℕ → List ℕ → Devicetree → Result Devicetree FdtFault
chosen name value t = set_at (codes "/chosen") name value t

-- the text with a zero byte after it
abbrev pub with_bootargs : Option (List ℕ) → Devicetree → Result Devicetree FdtFault
with_bootargs None t = Ok t
with_bootargs (Some text) t = chosen (codes "bootargs") (text ++ 0 ∷ []) t

-- the addresses of its first byte and of the first byte after it, each as 8 bytes
abbrev pub with_initrd : Option Span → Devicetree → Result Devicetree FdtFault
with_initrd None t = Ok t
with_initrd (Some s) t = do
  started ← chosen (codes "linux,initrd-start") (to_be_bytes w64 s.start) t
  chosen (codes "linux,initrd-end") (to_be_bytes w64 s.end) started

abbrev pub with_memory : Option Region → Devicetree → Result Devicetree FdtFault
with_memory None t = Ok t
with_memory (Some r) t = set_memory_at r.base (r.end - r.base) t

-- the tree with all three
abbrev pub with_edits : EditData → Devicetree → Result Devicetree FdtFault
with_edits c t = do
  commanded ← with_bootargs c.bootargs t
  started ← with_initrd c.initrd commanded
  with_memory c.memory started

-- the bytes of an edited devicetree, or why it cannot be edited: reading, editing, writing
unfoldable pub edited : EditData → List ℕ → Result (List ℕ) FdtFault
edited c bytes = do
  t ← tree_at bytes
  u ← with_edits c t
  file_of u
