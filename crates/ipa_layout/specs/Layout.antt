-- Where the items of a launch are and with which bytes, or the first reason why they cannot be. The order
-- is this project's choice: each item's own reasons, item by item, then those of all items together.
use Rattle.std.specs.Prelude.{◌≡◌, ℕ, ◌+◌, List, [], ◌∷◌, length, map, get_or, Option, Some, None, option_map, unwrap_or, Result, Ok, Err, Bool, true, ◌==◌, if◌then◌else◌}
use Rattle.std.specs.List.{find, position_from, slice_get, enumerate_from, zip}
use Rattle.std.specs.Option.{option_and_then}
use Rattle.std.specs.Result.{result_map_both, result_unwrap_or}
use Rattle.fdt_header.specs.declared.fault.FdtFault.{FdtFault}
use Rattle.rim_launch.specs.declared.item.ItemKind.{ItemKind}
use Rattle.rim_launch.specs.declared.item.ItemKind.TheVariants.{Dtb}
use Rattle.rim_launch.specs.declared.item.Item.{Item}
use Rattle.rim_launch.specs.declared.item.Region.{Region}
use Rattle.rim_launch.specs.declared.rec.Rec.{Rec}
use Rattle.ipa_layout.specs.declared.rec.PlacedRec.{PlacedRec}
use Rattle.ipa_layout.specs.declared.dtb_edit.Span.{Span}
use Rattle.ipa_layout.specs.declared.extent.Extent.{Extent}
use Rattle.rim_desc.specs.declared.source.Source.{Source}
use Rattle.rim_desc.specs.declared.source.Source.TheVariants.{File, Edited}
use Rattle.ipa_layout.specs.declared.placed.PlacedItem.{PlacedItem}
use Rattle.ipa_layout.specs.declared.fault.LayoutFault.{LayoutFault}
use Rattle.ipa_layout.specs.declared.reason.ItemExtent.{ItemExtent}
use Rattle.ipa_layout.specs.declared.reason.ItemReason.{ItemReason}
use Rattle.ipa_layout.specs.declared.reason.ItemReason.TheVariants.{Edits}
use Rattle.ipa_layout.specs.declared.reason.LayoutReason.{LayoutReason}
use Rattle.ipa_layout.specs.declared.reason.LayoutReason.TheVariants as reason
use Rattle.rim_launch.specs.LaunchData.{LaunchData, has_files}
use Rattle.rim_launch.specs.declared.item.Role.{Role}
use Rattle.rim_launch.specs.declared.item.Role.TheVariants as role
use Rattle.rim_launch.specs.Kinds.{file_of, has_edits, has_role}
use Rattle.ipa_layout.specs.DtbEdit.{EditData, edited, no_edits}
use Rattle.ipa_layout.specs.Extent.{lead_of, page_count_of}
use Rattle.ipa_layout.specs.ItemCheck.{checked_item}
use Rattle.ipa_layout.specs.Overlap.{checked_all}
use Rattle.ipa_layout.specs.Reason.{fault_of}
use Rattle.ipa_layout.specs.Rec.{rec_of}
use Rattle.refusal.specs.Answer.{◌>>=◌}

-- ---- the bytes of items

-- those of a file; without one there are none
abbrev pub bytes_in : List (List ℕ) → Option ℕ → List ℕ
bytes_in files None = []
bytes_in files (Some file) = get_or files file []

-- those of its file
abbrev pub file_bytes : List (List ℕ) → ItemKind → List ℕ
file_bytes files k = bytes_in files (file_of k)

-- the addresses of an initrd's bytes
abbrev pub initrd_span : List (List ℕ) → Item → Span
initrd_span files i = record { start = i.at; end = i.at + length (file_bytes files i.kind) }

abbrev pub only_if : {A : Type 0} → Bool → Option A → Option A
only_if b o = if b then o else None

-- the edits that a launch makes of its devicetree
abbrev pub edits_of : LaunchData → List (List ℕ) → ItemKind → EditData
edits_of l files (Dtb file edits) = record {
  bootargs = edits.bootargs;
  initrd = only_if edits.initrd (option_map (initrd_span files) (find (has_role role.Initrd) l.items));
  memory = only_if edits.memory (slice_get l.ram 0);
}
edits_of l files k = no_edits

abbrev pub edited_item : LaunchData → List (List ℕ) → Option Item → Result (Option (List ℕ)) FdtFault
edited_item l files None = Ok None
edited_item l files (Some i) = do
  bytes ← edited (edits_of l files i.kind) (file_bytes files i.kind)
  Ok (Some bytes)

-- the edited devicetree, if the launch has one, or why it cannot be edited
abbrev pub edited_dtb : LaunchData → List (List ℕ) → Result (Option (List ℕ)) FdtFault
edited_dtb l files = edited_item l files (find (λ i. has_edits i.kind) l.items)

abbrev pub edited_bytes : Result (Option (List ℕ)) FdtFault → Result (List ℕ) ItemReason
edited_bytes (Ok bytes) = Ok (unwrap_or bytes [])
edited_bytes (Err e) = Err (Edits e)

-- the bytes that are placed: an item's file, or the edited devicetree
abbrev pub bytes_of : Result (Option (List ℕ)) FdtFault → List (List ℕ) → Item → Result (List ℕ) ItemReason
bytes_of edited files i = if has_edits i.kind then edited_bytes edited else Ok (file_bytes files i.kind)

-- ---- their extents

-- the extent of an item, after others that have this many pages
abbrev pub extent_after : List Region → Result (Option (List ℕ)) FdtFault → List (List ℕ) → ℕ → Item → Result Extent ItemReason
extent_after ram edited files pages i = bytes_of edited files i >>= checked_item ram pages i

-- what is answered of the item of this number
abbrev pub of_item : ℕ → Result Extent ItemReason → Result Extent LayoutReason
of_item n r = result_map_both (λ extent. extent) (reason.Item n) r

-- the extents of items, which have the numbers from n on, after others that have this many pages
abbrev pub extents_of : List Region → Result (Option (List ℕ)) FdtFault → List (List ℕ) → ℕ → ℕ → List Item → Result (List Extent) LayoutReason
extents_of ram edited files n pages [] = Ok []
extents_of ram edited files n pages (i ∷ items) = do
  extent ← of_item n (extent_after ram edited files pages i)
  others ← extents_of ram edited files (n + 1) (pages + page_count_of extent.address extent.size) items
  Ok (extent ∷ others)

-- the item of this number, with its extent
abbrev pub item_extent : List Extent → ℕ → Option ItemExtent
item_extent extents n = option_map (λ extent. record { item = n; extent = extent }) (slice_get extents n)

-- the first item of a kind
abbrev pub extent_with : Role → List Item → List Extent → Option ItemExtent
extent_with r items extents = option_and_then (item_extent extents) (position_from (has_role r) 0 items)

-- ---- the whole launch

-- where its bytes come from; nowhere where the monitor does not know its content
abbrev pub source_of : ℕ → ItemKind → Option Source
source_of launch k = if has_edits k then Some (Edited launch) else option_map File (file_of k)

unfoldable pub item_at : ℕ → Item → Extent → PlacedItem
item_at launch i s = record {
  source = source_of launch i.kind;
  address = s.address;
  lead = lead_of s.address;
  pages = page_count_of s.address s.size;
  measured = i.measured;
}

abbrev pub items_at : ℕ → List Item → List Extent → List PlacedItem
items_at launch items extents = map (λ p. item_at launch p.0 p.1) (zip items extents)

abbrev pub address_of : Option ItemExtent → ℕ
address_of o = unwrap_or (option_map (λ s. s.extent.address) o) 0

-- each REC with its number, where the kernel and the devicetree are at these addresses
abbrev pub recs_at : ℕ → ℕ → List Rec → List PlacedRec
recs_at kernel dtb recs = map (λ r. rec_of r.0 kernel dtb r.1) (enumerate_from 0 recs)

pub record PlacedData : Type 0 where
  -- the launch's number in the release
  pub number : ℕ
  pub items : List PlacedItem
  pub recs : List PlacedRec
  -- the bytes of the edited devicetree
  pub edited : Option (List ℕ)

abbrev pub placed_at : LaunchData → Option (List ℕ) → List Extent → PlacedData
placed_at l edited extents = record {
  number = l.number;
  items = items_at l.number l.items extents;
  recs = recs_at (address_of (extent_with role.Kernel l.items extents)) (address_of (extent_with role.Dtb l.items extents)) l.recs;
  edited = edited;
}

abbrev pub checked_together : List Item → List Extent → Result (Unit {0}) LayoutReason
checked_together items extents = checked_all extents (extent_with role.Kernel items extents) (extent_with role.Initrd items extents)

-- the launch as it is placed, or the first reason why it cannot be
abbrev pub laid_out : LaunchData → List (List ℕ) → Result PlacedData LayoutReason
laid_out l files = do
  extents ← extents_of l.ram (edited_dtb l files) files 0 0 l.items
  _ ← checked_together l.items extents
  Ok (placed_at l (result_unwrap_or (edited_dtb l files) None) extents)

-- the same, with the fault alone
abbrev pub places : LaunchData → List (List ℕ) → Result PlacedData LayoutFault
places l files = result_map_both (λ p. p) fault_of (laid_out l files)

-- The launch is placed so with these files, of which it names no other. What is planned and measured of a
-- placed launch goes on from this.
pub record IsPlaced (l : LaunchData) (files : List (List ℕ)) (p : PlacedData) : Type 0 where
  pub there : has_files l (length files) ≡ true
  pub placed : places l files ≡ Ok p

-- the bytes that a placed launch has from a source: a file, or the devicetree that this launch edited
abbrev pub bytes_of_source : List (List ℕ) → PlacedData → Source → List ℕ
bytes_of_source files p (File n) = get_or files n []
bytes_of_source files p (Edited launch) = if launch == p.number then unwrap_or p.edited [] else []
