-- A number that has something is given something else, and may be given back what it had.
use Rattle.std.proofs.Common.{◌≡◌, ℕ, ◌<◌, arith, true, List, [], ◌∷◌}
use Rattle.std.specs.Prelude.{Some, None, is_some}
use Rattle.std.specs.List.Sorted.{IsStrictlySortedBy}
use Rattle.std.specs.Map.{keys_of, lookup, set_value}
use Rattle.std.specs.BTreeMap.{insert_entry, is_at}
use Rattle.std.specs.Ordering.{nat_cmp}
use Rattle.std.proofs.lemmas.Bool.Decides.{nat_tests}
use Rattle.std.proofs.lemmas.Cmp.{nat_cmp_total}
use Rattle.std.proofs.lemmas.Map.Entries.{lookup_at_gap}
use Rattle.std.proofs.lemmas.Map.Keys.{sorted_tail}

module _ {X : Type 0} (k : ℕ) where
  -- nothing is found below the first key
  none_below : (e : ℕ × X) (es : List (ℕ × X)) → IsStrictlySortedBy nat_cmp (keys_of (e ∷ es)) → k < e.0 → lookup (is_at (nat_cmp k)) (e ∷ es) ≡ None
  none_below e es sorted below = lookup_at_gap nat_cmp_total k (e ∷ es) 0 sorted (λ j d lt t. absurd (omega arith)) (λ d t. grind (arith, nat_tests))

  -- what is written where something is found is put there
  pub set_value_put : (es : List (ℕ × X)) (w : X) → IsStrictlySortedBy nat_cmp (keys_of es) → is_some (lookup (is_at (nat_cmp k)) es) ≡ true
      → set_value (is_at (nat_cmp k)) es w ≡ insert_entry nat_cmp es k w
  set_value_put [] w sorted there = absurd (cc)
  set_value_put (e ∷ es) w sorted there =
      let none = none_below e es sorted in
      let more = set_value_put es w (sorted_tail nat_cmp e.0 (keys_of es) sorted) in
      grind (arith, nat_tests)

  -- what was found, put again over what was put in its place, changes nothing
  pub put_back : (es : List (ℕ × X)) (v w : X) → IsStrictlySortedBy nat_cmp (keys_of es) → lookup (is_at (nat_cmp k)) es ≡ Some v
      → insert_entry nat_cmp (insert_entry nat_cmp es k w) k v ≡ es
  put_back [] v w sorted there = absurd (cc)
  put_back (e ∷ es) v w sorted there =
      let none = none_below e es sorted in
      let more = put_back es v w (sorted_tail nat_cmp e.0 (keys_of es) sorted) in
      grind (arith, nat_tests)
