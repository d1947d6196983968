-- The items of a launch that has its place, with the addresses of their bytes and pages. This project's choice.
use Rattle.std.specs.Prelude.{ℕ, ◌+◌, ◌*◌, List, [], ◌∷◌, length, Option, Some, None, unwrap_or}
use Rattle.rim_desc.specs.declared.source.Source.{Source}
use Rattle.rim_desc.specs.declared.page.TheConstants.{PAGE_SIZE}
use Rattle.rim_launch.specs.LaunchData.{LaunchData}
use Rattle.rim_launch.specs.declared.item.Item.{Item}
use Rattle.ipa_layout.specs.Layout.{PlacedData, bytes_of_source}
use Rattle.ipa_layout.specs.declared.placed.PlacedItem.{PlacedItem}
use Rattle.rmi_list.specs.Measured.{page_base}
use Rattle.map_rows.specs.declared.rows.Row.{Row}

-- how many bytes a source has; nowhere there are none
abbrev pub source_length : List (List ℕ) → PlacedData → Option Source → ℕ
source_length files p None = 0
source_length files p (Some source) = length (bytes_of_source files p source)

-- how many bytes an item has: those that the launch states, or else those of its source
abbrev pub item_bytes : List (List ℕ) → PlacedData → Item → Option Source → ℕ
item_bytes files p item source = unwrap_or item.size (source_length files p source)

-- the item of a number at its place
unfoldable pub row_of : List (List ℕ) → PlacedData → ℕ → Item → PlacedItem → Row
row_of files p number item place = record {
  number = number;
  item = place;
  base = page_base place;
  top = page_base place + PAGE_SIZE * place.pages;
  bytes = item_bytes files p item place.source;
  end = place.address + item_bytes files p item place.source;
}

-- items at their places, of which the first has this number
abbrev pub rows_from : List (List ℕ) → PlacedData → ℕ → List Item → List PlacedItem → List Row
rows_from files p n [] places = []
rows_from files p n (item ∷ items) [] = []
rows_from files p n (item ∷ items) (place ∷ places) = row_of files p n item place ∷ rows_from files p (n + 1) items places

-- those of a launch, in its order
abbrev pub rows_of : LaunchData → List (List ℕ) → PlacedData → List Row
rows_of l files p = rows_from files p 0 l.items p.items
