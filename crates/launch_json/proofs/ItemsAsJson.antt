-- The items of a launch are made one after another, and have no float.
use Rattle.std.proofs.Common.{Equal, Greater, Less, Ordering, ◌≡◌, ◌∙◌, ◌⊎◌, ◌||◌, inl, inr, ℕ, ◌+◌, ◌<◌, Bool}
use Rattle.std.proofs.Common.{true, false, List, [], ◌∷◌, ◌++◌, codes, length, map, refl, ap, sym, take, arith, get_or}
use Rattle.std.proofs.lemmas.List.{append-nil, length-take-le, take_more}
use Rattle.std.specs.Prelude.{Option, Some, None, option_and_then}
use Rattle.std.specs.List.{slice_get}
use Rattle.std.specs.Cmp.Lexicographic.{slice_cmp}
use Rattle.std.specs.Ordering.{match_ordering, nat_cmp}
use Rattle.serde_json.specs.Data.{Data, Members, member, no_members, put}
use Rattle.serde_json.specs.View.{items_of}
use Rattle.serde_json.specs.Written.{has_float, items_have_float, members_have_float}
use Rattle.rim_desc.specs.declared.rule.RecRule.{RecRule}
use Rattle.rim_launch.specs.Kinds.{file_of}
use Rattle.rim_launch.specs.declared.item.Item.{Item}
use Rattle.launch_json.specs.Items.{digest_json, item_json, item_members, items_json, place_json, rule_json}
use Rattle.launch_json.specs.Items.{size_json, stated_item_json, stated_items_json, stated_json}
use Rattle.launch_json.specs.Items.{stretch_json, text_json, with_digest}
use Rattle.map_rows.specs.declared.rows.Row.{Row}
use Rattle.map_rows.specs.declared.stretches.Stretch.{Stretch}

-- ---- one after another

-- after the last item all were made
pub items-over : (digests : Option (List (List ℕ))) (name : ℕ → List ℕ) (paths : List (List ℕ)) (items : List Item) (rows : List Row)
    (now all : List Data)
    → (length items ≡ 0) ⊎ (length rows ≡ 0) → now ++ items_json digests name paths items rows ≡ all → now ≡ all
items-over digests name paths [] rows now all over so_far = sym (append-nil now) ∙ so_far
items-over digests name paths (item ∷ items) [] now all over so_far = sym (append-nil now) ∙ so_far
items-over digests name paths (item ∷ items) (row ∷ rows) now all (inl none) so_far = absurd (omega (arith, none))
items-over digests name paths (item ∷ items) (row ∷ rows) now all (inr none) so_far = absurd (omega (arith, none))

-- one item more, as it is stated
stated-more : (digests : Option (List (List ℕ))) (name : ℕ → List ℕ) (paths : List (List ℕ)) (number : ℕ) (items : List Item) (item : Item)
    → stated_items_json digests name paths number (items ++ item ∷ [])
    ≡ stated_items_json digests name paths number items ++ stated_item_json digests name paths (number + length items) item ∷ []
stated-more digests name paths number [] item = ap (λ (n : ℕ). stated_item_json digests name paths n item ∷ []) (omega arith)
stated-more digests name paths number (first ∷ items) item =
    ap (λ (ds : List Data). stated_item_json digests name paths number first ∷ ds)
    (stated-more digests name paths (number + 1) items item
    ∙ ap (λ (n : ℕ). stated_items_json digests name paths (number + 1) items ++ stated_item_json digests name paths n item ∷ []) (omega arith))

-- the next one is made
pub stated-next : (digests : Option (List (List ℕ))) (name : ℕ → List ℕ) (paths : List (List ℕ)) (items : List Item) (i : ℕ) (item : Item)
    (made : List Data) (one : Data) (number : ℕ)
    → i < length items → item ≡ get_or items i item → made ≡ stated_items_json digests name paths 0 (take i items)
    → one ≡ stated_item_json digests name paths number item → number ≡ i
    → made ++ one ∷ [] ≡ stated_items_json digests name paths 0 (take (i + 1) items)
stated-next digests name paths items i item made one number low at so_far is same =
    ap (λ (ds : List Data). ds ++ one ∷ []) so_far
    ∙ ap (λ (d : Data). stated_items_json digests name paths 0 (take i items) ++ d ∷ [])
    (is ∙ ap (λ (n : ℕ). stated_item_json digests name paths n item) (same ∙ place))
    ∙ sym (stated-more digests name paths 0 (take i items) item)
    ∙ sym (ap (λ (xs : List Item). stated_items_json digests name paths 0 xs) (take_more items i item low
    ∙ ap (λ (x : Item). take i items ++ x ∷ []) (sym at)))
  where
    place : i ≡ 0 + length (take i items)
    place = omega (arith, length-take-le i items (omega (arith, low)))

-- ---- no part has a float

-- nor has an object with another member
pub put-float : (k : List ℕ) (d : Data) (ms : Members) → has_float d ≡ false → members_have_float ms ≡ false → members_have_float (put k d ms) ≡ false
put-float k d no_members one others = rw one refl
put-float k d (member l e ms) one others = by_order (slice_cmp nat_cmp k l) (has_float e) refl others (λ none. put-float k d ms one none)
  where
    by_order : (o : Ordering) (b : Bool) → has_float e ≡ b → b || members_have_float ms ≡ false
        → (members_have_float ms ≡ false → members_have_float (put k d ms) ≡ false)
        → members_have_float (match_ordering o (member k d (member l e ms)) (member l d ms) (member l e (put k d ms))) ≡ false
    by_order Less b is none deeper = rw (one, is) none
    by_order Equal false is none deeper = rw one none
    by_order Equal true is none deeper = absurd (cc)
    by_order Greater false is none deeper = rw is (deeper none)
    by_order Greater true is none deeper = absurd (cc)

-- nor have two parts of which neither has one
pub neither : (a b : Bool) → a ≡ false → b ≡ false → a || b ≡ false
neither a b one other = rw one other

pub stretches-float : (ss : List Stretch) → items_have_float (items_of (map stretch_json ss)) ≡ false
unfolding stretch_json
stretches-float [] = refl
stretches-float (s ∷ ss) = stretches-float ss

pub rule-float : (o : Option RecRule) → has_float (rule_json o) ≡ false
rule-float None = refl
rule-float (Some rule) = refl

pub text-float : (o : Option (List ℕ)) → has_float (text_json o) ≡ false
text-float None = refl
text-float (Some text) = refl

size-float : (o : Option ℕ) → has_float (size_json o) ≡ false
size-float None = refl
size-float (Some size) = refl

with-float : (digests : Option (List (List ℕ))) (item : Item) (ms : Members) → members_have_float ms ≡ false
    → members_have_float (with_digest digests item ms) ≡ false
with-float None item ms none = none
with-float (Some digests) item ms none = put-float (codes "sha256") (digest_json digests item) ms (text-float _) none

members-float : (name : ℕ → List ℕ) (paths : List (List ℕ)) (n : ℕ) (item : Item) (measured : Bool)
    → members_have_float (item_members name paths n item measured) ≡ false
members-float name paths n item measured = rw (text-float (option_and_then (slice_get paths) (file_of item.kind))) refl

pub items-float : (digests : Option (List (List ℕ))) (name : ℕ → List ℕ) (paths : List (List ℕ)) (items : List Item) (rows : List Row)
    → items_have_float (items_of (items_json digests name paths items rows)) ≡ false
unfolding item_json place_json
items-float digests name paths [] rows = refl
items-float digests name paths (item ∷ items) [] = refl
items-float digests name paths (item ∷ items) (row ∷ rows) =
    let own : Members = item_members name paths row.number item row.item.measured in
    neither _ _ (with-float digests item _ (put-float (codes "place") (place_json row) own refl (members-float name paths row.number item row.item.measured)))
    (items-float digests name paths items rows)

pub stated-float : (digests : Option (List (List ℕ))) (name : ℕ → List ℕ) (paths : List (List ℕ)) (number : ℕ) (items : List Item)
    → items_have_float (items_of (stated_items_json digests name paths number items)) ≡ false
unfolding stated_item_json stated_json
stated-float digests name paths n [] = refl
stated-float digests name paths n (item ∷ items) =
    let own : Members = item_members name paths n item item.measured in
    let stated : has_float (stated_json item) ≡ false = rw (size-float item.size) refl in
    neither _ _ (with-float digests item _ (put-float (codes "stated") (stated_json item) own stated (members-float name paths n item item.measured)))
    (stated-float digests name paths (n + 1) items)
