-- The items of a launch as JSON, and stretches of addresses. Members are in the order of their keys. This project's choice.
use Rattle.std.specs.Prelude.{ℕ, ◌+◌, Bool, List, [], ◌∷◌, codes, Option, Some, None, option_and_then, option_map}
use Rattle.std.specs.List.{slice_get}
use Rattle.hex.specs.Hex.{encode_lower}
use Rattle.serde_json.specs.Data.{Data, Members, boolean, member, no_members, null, number, object, put, string, unsigned}
use Rattle.rim_desc.specs.Rule.{rule_word}
use Rattle.rim_desc.specs.declared.rule.RecRule.{RecRule}
use Rattle.rim_launch.specs.Kinds.{file_of, has_edits, role_of}
use Rattle.rim_launch.specs.declared.item.Item.{Item}
use Rattle.rim_rules.specs.Kinds.{kind_word}
use Rattle.map_rows.specs.declared.rows.Row.{Row}
use Rattle.map_rows.specs.declared.stretches.Stretch.{Stretch}

abbrev pub count : ℕ → Data
count n = number (unsigned n)

-- a text, or null where there is none
abbrev pub text_json : Option (List ℕ) → Data
text_json None = null
text_json (Some text) = string text

-- the word of a rule for RECs, or null where there is none
abbrev pub rule_json : Option RecRule → Data
rule_json None = null
rule_json (Some rule) = string (rule_word rule)

unfoldable pub stretch_json : Stretch → Data
stretch_json s = object (member (codes "base") (count s.base) (member (codes "end") (count s.end) no_members))

-- where an item is, and how large it is
unfoldable pub place_json : Row → Data
place_json row =
    object (member (codes "address") (count row.item.address) (member (codes "bytes") (count row.bytes) (member (codes "end") (count row.end)
    (member (codes "lead") (count row.item.lead) (member (codes "pages") (count row.item.pages) no_members)))))

-- a size, or null where none is stated
abbrev pub size_json : Option ℕ → Data
size_json None = null
size_json (Some size) = count size

-- where a manifest asks for an item
unfoldable pub stated_json : Item → Data
stated_json item = object (member (codes "at") (count item.at) (member (codes "size") (size_json item.size) no_members))

-- what is shown of an item, but for its place, where items have these names and files these paths
abbrev pub item_members : (ℕ → List ℕ) → List (List ℕ) → ℕ → Item → Bool → Members
item_members name paths n item measured =
    member (codes "edited") (boolean (has_edits item.kind)) (member (codes "file") (text_json (option_and_then (slice_get paths) (file_of item.kind)))
    (member (codes "kind") (string (kind_word (role_of item.kind))) (member (codes "measured") (boolean measured)
    (member (codes "name") (string (name n)) no_members))))

-- the digest of an item's file, with two lower case hexadecimal digits for each byte, or null where it has no file
abbrev pub digest_json : List (List ℕ) → Item → Data
digest_json digests item = text_json (option_map encode_lower (option_and_then (slice_get digests) (file_of item.kind)))

-- the same members, and the digest of the item's file where the digests of files are shown
abbrev pub with_digest : Option (List (List ℕ)) → Item → Members → Members
with_digest None item members = members
with_digest (Some digests) item members = put (codes "sha256") (digest_json digests item) members

-- an item at its place
unfoldable pub item_json : Option (List (List ℕ)) → (ℕ → List ℕ) → List (List ℕ) → Item → Row → Data
item_json digests name paths item row =
    object (with_digest digests item (put (codes "place") (place_json row) (item_members name paths row.number item row.item.measured)))

-- the items of a launch at their places, in its order
abbrev pub items_json : Option (List (List ℕ)) → (ℕ → List ℕ) → List (List ℕ) → List Item → List Row → List Data
items_json digests name paths [] rows = []
items_json digests name paths (item ∷ items) [] = []
items_json digests name paths (item ∷ items) (row ∷ rows) = item_json digests name paths item row ∷ items_json digests name paths items rows

-- the item of a number as the manifest states it
unfoldable pub stated_item_json : Option (List (List ℕ)) → (ℕ → List ℕ) → List (List ℕ) → ℕ → Item → Data
stated_item_json digests name paths n item =
    object (with_digest digests item (put (codes "stated") (stated_json item) (item_members name paths n item item.measured)))

-- items as the manifest states them, of which the first has this number
abbrev pub stated_items_json : Option (List (List ℕ)) → (ℕ → List ℕ) → List (List ℕ) → ℕ → List Item → List Data
stated_items_json digests name paths n [] = []
stated_items_json digests name paths n (item ∷ items) = stated_item_json digests name paths n item ∷ stated_items_json digests name paths (n + 1) items
