-- Where each item of a launch has its file, so has an item that is found.
use Rattle.std.proofs.Common.{◌≡◌, ℕ, ◌<◌, Bool, true, false, length, get_or, List, Some, refl, sym, ◌∙◌}
use Rattle.std.specs.List.{find, list_all}
use Rattle.std.proofs.lemmas.List.Folds.{list_all_at}
use Rattle.ipa_layout.proofs.FoundInLists.{found-holds}
use Rattle.rim_launch.specs.declared.item.Item.{Item}
use Rattle.rim_launch.specs.Kinds.{file_of, is_below}
use Rattle.rim_launch.specs.LaunchData.{LaunchData, has_files}

-- where each item's file is one of these, so is that of an item that is found
pub found-file : (l : LaunchData) (count : ℕ) (t : Item → Bool) (i : Item) → has_files l count ≡ true → find t l.items ≡ Some i → is_below count (file_of i.kind) ≡ true
found-file l count t i h e = found-holds (λ (j : Item). is_below count (file_of j.kind)) t l.items i h e

-- what holds of all holds of each
each-holds : {X : Type 0} (p : X → Bool) (xs : List X) (k : ℕ) (x : X) → k < length xs → x ≡ get_or xs k x → list_all p xs ≡ true → p x ≡ true
each-holds p xs k x lt is all = go (p x) refl (λ e. list_all_at p xs k x lt (rw (sym is) e))
  where
    go : (b : Bool) → p x ≡ b → (p x ≡ false → list_all p xs ≡ false) → p x ≡ true
    go true e none = e
    go false e none = let q : true ≡ false = sym all ∙ none e in absurd cc

-- and that of each item
pub all-files : (l : LaunchData) (count k : ℕ) (i : Item) → has_files l count ≡ true → k < length l.items → i ≡ get_or l.items k i → is_below count (file_of i.kind) ≡ true
all-files l count k i h lt is = each-holds (λ (j : Item). is_below count (file_of j.kind)) l.items k i lt is h
