-- Where an item is, how large it is and which pages it touches. That an Image begins at its base plus the
-- offset in its header, and what it takes there: Linux, booting.rst, section "Call the kernel
-- image". Pages of 4096 bytes: DEN0137, "Granule". The rest is this project's choice. Numbers have no
-- bound, so no sum wraps.
use Rattle.std.specs.Prelude.{ℕ, ◌+◌, ◌-◌, ◌/◌, ◌%◌, max, List, length, Result, Ok, Err, ◌==◌, unwrap_or, if◌then◌else◌}
use Rattle.arm64_image.specs.ImageHeader.{read_of, load_offset_of, extent_of}
use Rattle.arm64_image.specs.declared.Header.{Header}
use Rattle.arm64_image.specs.declared.ImageFault.{ImageFault}
use Rattle.rim_launch.specs.declared.item.Item.{Item}
use Rattle.ipa_layout.specs.declared.extent.WantedExtent.{WantedExtent}
use Rattle.ipa_layout.specs.declared.reason.ItemReason.{ItemReason}
use Rattle.ipa_layout.specs.declared.reason.ItemReason.TheVariants.{Kernel}
use Rattle.rim_launch.specs.declared.item.Role.TheVariants as role
use Rattle.rim_launch.specs.Kinds.{has_role}
use Rattle.rim_desc.specs.declared.page.TheConstants.{PAGE_SIZE}

-- how many bytes after the start of a page an address is
abbrev pub lead_of : ℕ → ℕ
lead_of address = address % PAGE_SIZE

-- the number of the page that holds an address
abbrev pub first_page : ℕ → ℕ
first_page address = address / PAGE_SIZE

-- the number of the first page that begins at an address or after it
abbrev pub end_page : ℕ → ℕ
end_page address = (address + (PAGE_SIZE - 1)) / PAGE_SIZE

-- how many pages these bytes touch: those from the first byte's page to the last byte's
abbrev pub page_count_of : ℕ → ℕ → ℕ
page_count_of address size = if size == 0 then 0 else first_page (address + size - 1) + 1 - first_page address

-- the stated size, or the number of the item's bytes
abbrev pub size_of : Item → ℕ → ℕ
size_of i count = unwrap_or i.size count

-- a kernel begins after its base, and takes its size or what its header says, whichever is more
abbrev pub kernel_at : Item → ℕ → Result Header ImageFault → Result WantedExtent ItemReason
kernel_at i count (Err e) = Err (Kernel e count)
kernel_at i count (Ok h) = Ok (record {
  address = i.at + load_offset_of h;
  size = size_of i count;
  len = max (size_of i count) (extent_of h count);
})

-- the extent that a launch asks for, of an item with these bytes
unfoldable pub wanted_of : Item → List ℕ → Result WantedExtent ItemReason
wanted_of i bytes =
    if has_role role.Kernel i then kernel_at i (length bytes) (read_of bytes)
    else Ok (record { address = i.at; size = size_of i (length bytes); len = size_of i (length bytes) })
