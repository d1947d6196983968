-- The rows of a launch are made item by item.
use Rattle.std.proofs.Common.{◌≡◌, ◌∙◌, ◌⊎◌, inl, inr, ℕ, List, [], ◌∷◌, ◌++◌, length, sym, arith}
use Rattle.std.proofs.lemmas.List.{append-nil}
use Rattle.rim_launch.specs.declared.item.Item.{Item}
use Rattle.ipa_layout.specs.Layout.{PlacedData}
use Rattle.ipa_layout.specs.declared.placed.PlacedItem.{PlacedItem}
use Rattle.map_rows.specs.Rows.{rows_from}
use Rattle.map_rows.specs.declared.rows.Row.{Row}

-- after the last item all were made
pub rows-over : (files : List (List ℕ)) (p : PlacedData) (n : ℕ) (items : List Item) (places : List PlacedItem) (now all : List Row)
    → (length items ≡ 0) ⊎ (length places ≡ 0) → now ++ rows_from files p n items places ≡ all → now ≡ all
rows-over files p n [] places now all over so_far = sym (append-nil now) ∙ so_far
rows-over files p n (item ∷ items) [] now all over so_far = sym (append-nil now) ∙ so_far
rows-over files p n (item ∷ items) (place ∷ places) now all (inl none) so_far = absurd (omega (arith, none))
rows-over files p n (item ∷ items) (place ∷ places) now all (inr none) so_far = absurd (omega (arith, none))
