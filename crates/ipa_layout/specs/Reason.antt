-- The fault that each reason is one of. This project's choice.
use Rattle.fdt_header.specs.declared.fault.FdtFault.TheVariants.{TooLarge}
use Rattle.ipa_layout.specs.declared.fault.LayoutFault.{LayoutFault}
use Rattle.ipa_layout.specs.declared.fault.LayoutFault.TheVariants as fault
use Rattle.ipa_layout.specs.declared.reason.ItemReason.{ItemReason}
use Rattle.ipa_layout.specs.declared.reason.ItemReason.TheVariants as item
use Rattle.ipa_layout.specs.declared.reason.LayoutReason.{LayoutReason}
use Rattle.ipa_layout.specs.declared.reason.LayoutReason.TheVariants as reason

abbrev pub item_fault_of : ItemReason → LayoutFault
item_fault_of (item.Kernel e count) = fault.Kernel e
item_fault_of (item.Edits e) = fault.Dtb e
item_fault_of (item.TooLarge size) = fault.Dtb TooLarge
item_fault_of (item.Unaligned at) = fault.Unaligned
item_fault_of (item.KernelBase at) = fault.KernelBase
item_fault_of (item.Short size count) = fault.Size
item_fault_of (item.TooManyPages pages) = fault.Size
item_fault_of (item.PastEnd range) = fault.OutsideRam
item_fault_of (item.OutsideRam range page) = fault.OutsideRam

abbrev pub fault_of : LayoutReason → LayoutFault
fault_of (reason.Item n why) = item_fault_of why
fault_of (reason.Overlap first second) = fault.Overlap
fault_of (reason.InitrdWindow kernel initrd) = fault.InitrdWindow
