-- What holds of each launch that is placed, for the layers that go on from it. This project's choice.
use Rattle.std.specs.Prelude.{◌≡◌, ℕ, ◌+◌, ◌<◌, ◌≤◌, true, false, Option, Some, None, IsSome, sum_by}
use Rattle.std.specs.List.{slice_get}
use Rattle.rim_desc.specs.declared.source.Source.{Source}
use Rattle.rim_desc.specs.declared.source.Source.TheVariants.{File, Edited}
use Rattle.rim_launch.specs.declared.item.Item.{Item}
use Rattle.ipa_layout.specs.declared.placed.PlacedItem.{PlacedItem}
use Rattle.rim_launch.specs.LaunchData.{LaunchData}
use Rattle.rim_launch.specs.Kinds.{file_of, has_edits}
use Rattle.ipa_layout.specs.Extent.{first_page}
use Rattle.ipa_layout.specs.Layout.{PlacedData}

-- the launch has an item of this number, and it is placed so
pub record IsItem (l : LaunchData) (p : PlacedData) (number : ℕ) (item : Item) (i : PlacedItem) : Type 0 where
  pub in_launch : slice_get l.items number ≡ Some item
  pub placed : slice_get p.items number ≡ Some i

-- its bytes are those of its own file, or of the devicetree that this launch edited, which has some; an item has none
-- where the monitor does not know its content
abbrev pub IsSourceOf : LaunchData → PlacedData → Item → Option Source → Type 0
IsSourceOf l p item None = file_of item.kind ≡ None
IsSourceOf l p item (Some (File n)) = (has_edits item.kind ≡ false) × (file_of item.kind ≡ Some n)
IsSourceOf l p item (Some (Edited launch)) = (has_edits item.kind ≡ true) × (launch ≡ l.number) × IsSome p.edited

-- the number of the first page after an item's pages
abbrev pub page_end : PlacedItem → ℕ
page_end i = first_page i.address + i.pages

-- the page of this number is one of the item's
abbrev pub HasPage : PlacedItem → ℕ → Type 0
HasPage i page = (first_page i.address ≤ page) × (page < page_end i)

-- how many pages all items have together
abbrev pub page_total : PlacedData → ℕ
page_total p = sum_by (λ i. i.pages) p.items
