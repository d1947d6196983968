-- Why a file is not shown, and the words of it. This project's choice.
use Rattle.std.specs.Prelude.{ℕ, List, Result, Ok, Err, codes}
use Rattle.refusal.specs.declared.memory.NoMemory.{NoMemory}
use Rattle.arm64_image.specs.declared.ImageFault.{ImageFault}
use Rattle.arm64_image.specs.declared.ImageFault.TheVariants.{Short, BadMagic}
use Rattle.fdt_header.specs.Faults.{own_fault}
use Rattle.fdt_header.specs.declared.fault.FdtFault.{FdtFault}
use Rattle.fdt_header.specs.declared.fault.FdtFault.TheVariants as fdt
use Rattle.rim_show.specs.declared.fault.ShowFault.{ShowFault}
use Rattle.rim_show.specs.declared.fault.ShowFault.TheVariants as show

abbrev pub image_kind_of : ImageFault → List ℕ
image_kind_of Short = codes "kernel-short"
image_kind_of BadMagic = codes "kernel-bad-magic"

abbrev pub devicetree_kind_of : FdtFault → List ℕ
devicetree_kind_of fdt.Short = codes "dtb-short"
devicetree_kind_of fdt.BadMagic = codes "dtb-bad-magic"
devicetree_kind_of fdt.BadVersion = codes "dtb-bad-version"
devicetree_kind_of fdt.BadBlock = codes "dtb-bad-block"
devicetree_kind_of fdt.BadReserve = codes "dtb-bad-reserve"
devicetree_kind_of fdt.BadToken = codes "dtb-bad-token"
devicetree_kind_of fdt.BadName = codes "dtb-bad-name"
devicetree_kind_of fdt.BadString = codes "dtb-bad-string"
devicetree_kind_of fdt.LateProperty = codes "dtb-late-property"
devicetree_kind_of fdt.TooDeep = codes "dtb-too-deep"
devicetree_kind_of fdt.BadCells = codes "dtb-bad-cells"
devicetree_kind_of fdt.TooLarge = codes "dtb-too-large"
devicetree_kind_of fdt.NoMemory = codes "no-memory"

abbrev pub show_kind_of : ShowFault → List ℕ
show_kind_of (show.Image fault) = image_kind_of fault
show_kind_of (show.Dtb fault) = devicetree_kind_of fault
show_kind_of show.NoMemory = codes "no-memory"

-- why a devicetree is not shown: its own fault, or want of memory, which is no fault of the devicetree
abbrev pub shown_own : Result FdtFault NoMemory → ShowFault
shown_own (Ok own) = show.Dtb own
shown_own (Err memory) = show.NoMemory

abbrev pub shown_fault : FdtFault → ShowFault
shown_fault fault = shown_own (own_fault fault)
