-- Whether an item may be where its launch asks for it, and the first reason why not. That a devicetree is
-- at a multiple of 8 and has at most SIZE_LIMIT bytes, 2 MiB: Linux, booting.rst, "Setup the device tree"; that a kernel's base
-- is a multiple of KERNEL_ALIGNMENT, 2 MiB: "Call the kernel image". The rest is this project's choice.
use Rattle.std.specs.Prelude.{ℕ, ◌+◌, ◌-◌, ◌%◌, ◌^◌, List, [], ◌∷◌, length, Bool, Option, None, is_some, unwrap_or, Result, Ok, Err, not, ◌&&◌, ◌||◌, ◌==◌, nat_lt, nat_le, if◌then◌else◌}
use Rattle.refusal.specs.Checks.{Check, unless_refused}
use Rattle.fdt_header.specs.declared.header.TheConstants.{SIZE_LIMIT}
use Rattle.rim_launch.specs.declared.item.Item.{Item}
use Rattle.rim_launch.specs.declared.item.Region.{Region}
use Rattle.ipa_layout.specs.declared.extent.WantedExtent.{WantedExtent}
use Rattle.ipa_layout.specs.declared.extent.Extent.{Extent}
use Rattle.ipa_layout.specs.declared.reason.IpaRange.{IpaRange}
use Rattle.ipa_layout.specs.declared.reason.ItemReason.{ItemReason}
use Rattle.ipa_layout.specs.declared.reason.ItemReason.TheVariants.{KernelBase, OutsideRam, PastEnd, Short, TooLarge, TooManyPages, Unaligned}
use Rattle.rim_launch.specs.declared.item.Role.TheVariants as role
use Rattle.rim_launch.specs.Kinds.{has_role}
use Rattle.ipa_layout.specs.Memory.{first_unheld}
use Rattle.ipa_layout.specs.Extent.{end_page, first_page, page_count_of, wanted_of}
use Rattle.ipa_layout.specs.declared.item_check.TheConstants.{KERNEL_ALIGNMENT, PAGE_LIMIT}

-- how many pages the launch's items have, up to and with this one
abbrev pub pages_with : ℕ → WantedExtent → ℕ
pages_with pages_before a = pages_before + page_count_of a.address a.size

-- The item begins at 2^64 or after it, or ends past it.
abbrev pub is_past_end : WantedExtent → Bool
is_past_end a = nat_le (2 ^ 64) a.address || nat_lt (2 ^ 64) (a.address + a.len)

-- The first page of the item's extent, rounded to whole pages, that is not RAM. An empty extent has no pages.
abbrev pub first_outside : List Region → WantedExtent → Option ℕ
first_outside ram a =
    if a.len == 0 then None else first_unheld ram (first_page a.address) (end_page (a.address + a.len) - first_page a.address)

-- the addresses that it asks for
abbrev pub range_of : WantedExtent → IpaRange
range_of a = record { base = a.address; end = a.address + a.len }

-- in this order; each reason has the numbers that its check looks at
abbrev pub checks_of : List Region → ℕ → Item → ℕ → WantedExtent → List (Check ItemReason)
checks_of ram pages_before i count a =
    (TooLarge a.size, has_role role.Dtb i && nat_lt SIZE_LIMIT a.size)
    ∷ (Unaligned i.at, has_role role.Dtb i && not (i.at % 8 == 0))
    ∷ (KernelBase i.at, has_role role.Kernel i && not (i.at % KERNEL_ALIGNMENT == 0))
    ∷ (Short a.size count, nat_lt a.size count)
    ∷ (TooManyPages (pages_with pages_before a), nat_lt PAGE_LIMIT (pages_with pages_before a))
    ∷ (PastEnd (range_of a), is_past_end a)
    ∷ (OutsideRam (range_of a) (unwrap_or (first_outside ram a) 0), is_some (first_outside ram a)) ∷ []

-- the first that holds, or the item's extent
unfoldable pub checked_wanted : List Region → ℕ → Item → ℕ → WantedExtent → Result Extent ItemReason
checked_wanted ram pages_before i count a =
    unless_refused (checks_of ram pages_before i count a) (record { address = a.address; size = a.size; len = a.len })

abbrev pub checked_if : List Region → ℕ → Item → ℕ → Result WantedExtent ItemReason → Result Extent ItemReason
checked_if ram pages_before i count (Err e) = Err e
checked_if ram pages_before i count (Ok a) = checked_wanted ram pages_before i count a

-- the extent of an item with these bytes, after items with this many pages
abbrev pub checked_item : List Region → ℕ → Item → List ℕ → Result Extent ItemReason
checked_item ram pages_before i bytes = checked_if ram pages_before i (length bytes) (wanted_of i bytes)
