-- The extents of all items are found one item after another.
use Rattle.std.proofs.Common.{◌≡◌, ℕ, ◌+◌, ◌<◌, List, [], ◌∷◌, ◌++◌, length, get_or, drop, Option, Result, Ok, Err, refl, sym, ap, ◌∙◌, append_assoc}
use Rattle.fdt_header.specs.declared.fault.FdtFault.{FdtFault}
use Rattle.refusal.specs.Answer.{◌>>=◌, with_front}
use Rattle.rim_launch.specs.declared.item.Item.{Item}
use Rattle.rim_launch.specs.declared.item.Region.{Region}
use Rattle.ipa_layout.specs.declared.extent.Extent.{Extent}
use Rattle.ipa_layout.specs.declared.reason.ItemReason.{ItemReason}
use Rattle.ipa_layout.specs.declared.reason.LayoutReason.TheVariants as reason
use Rattle.ipa_layout.specs.Extent.{page_count_of}
use Rattle.std.proofs.lemmas.List.{drop_more}
use Rattle.ipa_layout.specs.Layout.{extent_after, extents_of}

pub with_none : {X E : Type 0} (r : Result (List X) E) → with_front [] r ≡ r
with_none (Ok xs) = refl
with_none (Err e) = refl

with_one : {X E : Type 0} (front : List X) (x : X) (r : Result (List X) E) → with_front front (r >>= λ xs. Ok (x ∷ xs)) ≡ with_front (front ++ x ∷ []) r
with_one front x (Ok xs) = ap (λ (ys : List _). Ok ys) (sym (append_assoc front (x ∷ []) xs))
with_one front x (Err e) = refl

module _ (ram : List Region) (edited : Result (Option (List ℕ)) FdtFault) (files : List (List ℕ)) (n pages : ℕ) (front : List Extent) (i : Item) (items : List Item) where
  -- the next item has an extent
  pub stands : (s : Extent) → extent_after ram edited files pages i ≡ Ok s
      → with_front front (extents_of ram edited files n pages (i ∷ items)) ≡ with_front (front ++ s ∷ []) (extents_of ram edited files (n + 1) (pages + page_count_of s.address s.size) items)
  stands s stood = rw stood (with_one front s (extents_of ram edited files (n + 1) (pages + page_count_of s.address s.size) items))

  -- it has none
  pub falls : (e : ItemReason) → extent_after ram edited files pages i ≡ Err e → with_front front (extents_of ram edited files n pages (i ∷ items)) ≡ Err (reason.Item n e)
  falls e stood = rw stood refl

-- the items from this one on
pub next_item : (items : List Item) (k : ℕ) (i : Item) → k < length items → i ≡ get_or items k i → drop k items ≡ i ∷ drop (k + 1) items
next_item items k i lt is = drop_more items k i lt ∙ ap (λ (j : Item). j ∷ drop (k + 1) items) (sym is)
