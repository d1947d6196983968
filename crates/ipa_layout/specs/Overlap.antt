-- Items that overlap. That no two share a page is this project's choice. The window: Linux,
-- booting.rst, "Call the kernel image": the initrd lies in a window of up to 32 GiB, aligned to 1 GiB, that
-- covers the kernel too.
use Rattle.std.specs.Prelude.{ℕ, ◌+◌, ◌-◌, ◌/◌, min, max, List, [], ◌∷◌, Option, Some, None, option_map, Result, Ok, Err, if◌then◌else◌, Bool, not, ◌&&◌, ◌==◌, nat_lt}
use Rattle.std.specs.Option.{option_or}
use Rattle.refusal.specs.Answer.{◌>>=◌}
use Rattle.ipa_layout.specs.declared.extent.Extent.{Extent}
use Rattle.ipa_layout.specs.declared.reason.ItemExtent.{ItemExtent}
use Rattle.ipa_layout.specs.declared.reason.LayoutReason.{LayoutReason}
use Rattle.ipa_layout.specs.declared.reason.LayoutReason.TheVariants.{InitrdWindow, Overlap}
use Rattle.ipa_layout.specs.Extent.{end_page, first_page}

-- whether the rounded extents of two items have a page in common
abbrev pub overlaps : Extent → Extent → Bool
overlaps a b = not (a.len == 0) && not (b.len == 0)
    && nat_lt (first_page a.address) (end_page (b.address + b.len))
    && nat_lt (first_page b.address) (end_page (a.address + a.len))

-- the first of some items, which have the numbers from n on, that meets this one
abbrev pub first_met : Extent → ℕ → List Extent → Option ItemExtent
first_met a n [] = None
first_met a n (b ∷ others) = if overlaps a b then Some (record { item = n; extent = b }) else first_met a (n + 1) others

-- the first that meets a later one, and the first later one that it meets
abbrev pub first_overlap : ℕ → List Extent → Option (ItemExtent × ItemExtent)
first_overlap n [] = None
first_overlap n (a ∷ others) = option_or (option_map (λ b. (record { item = n; extent = a }, b)) (first_met a (n + 1) others)) (first_overlap (n + 1) others)

-- how many GiB the smallest range of whole GiB has that covers two extents
abbrev pub gib_span : Extent → Extent → ℕ
gib_span a b = (max (a.address + a.len) (b.address + b.len) + 0x3fffffff) / 0x40000000 - min a.address b.address / 0x40000000

abbrev pub is_too_far : Extent → Extent → Bool
is_too_far kernel initrd = not (initrd.len == 0) && nat_lt 32 (gib_span kernel initrd)

-- two items that overlap
abbrev pub apart_unless : Option (ItemExtent × ItemExtent) → Result (Unit {0}) LayoutReason
apart_unless (Some p) = Err (Overlap p.0 p.1)
apart_unless None = Ok tt

-- a kernel and an initrd, if the launch has both
abbrev pub checked_window : Option ItemExtent → Option ItemExtent → Result (Unit {0}) LayoutReason
checked_window (Some kernel) (Some initrd) = if is_too_far kernel.extent initrd.extent then Err (InitrdWindow kernel initrd) else Ok tt
checked_window _ _ = Ok tt

-- what is refused of all items together
unfoldable pub checked_all : List Extent → Option ItemExtent → Option ItemExtent → Result (Unit {0}) LayoutReason
checked_all items kernel initrd = apart_unless (first_overlap 0 items) >>= λ _. checked_window kernel initrd
