-- A granule that is given a kind has it, and each other one keeps what it had.
use Rattle.std.proofs.Common.{◌≡◌, ℕ, arith, List, [], ◌∷◌}
use Rattle.std.specs.Prelude.{Some}
use Rattle.std.specs.Map.{lookup}
use Rattle.std.specs.BTreeMap.{insert_entry, is_at}
use Rattle.std.specs.Ordering.{nat_cmp}
use Rattle.std.proofs.lemmas.Bool.Decides.{nat_tests}
use Rattle.rmm_model.specs.declared.outcome.Kind.{Kind}
use Rattle.rmm_model.specs.Owners.{give, kind_of}

-- a number is given what is put at it
pub lookup-here : {X : Type 0} (es : List (ℕ × X)) (k : ℕ) (v : X) → lookup (is_at (nat_cmp k)) (insert_entry nat_cmp es k v) ≡ Some v
lookup-here [] k v = grind (arith, nat_tests)
lookup-here (e ∷ es) k v = let i : lookup (is_at (nat_cmp k)) (insert_entry nat_cmp es k v) ≡ Some v = lookup-here es k v in grind (arith, nat_tests)

-- and each other number keeps what it had
pub lookup-other : {X : Type 0} (es : List (ℕ × X)) (k q : ℕ) (v : X) → (q ≡ k → ⊥) → lookup (is_at (nat_cmp q)) (insert_entry nat_cmp es k v) ≡ lookup (is_at (nat_cmp q)) es
lookup-other [] k q v n = grind (arith, nat_tests)
lookup-other (e ∷ es) k q v n = let i : lookup (is_at (nat_cmp q)) (insert_entry nat_cmp es k v) ≡ lookup (is_at (nat_cmp q)) es = lookup-other es k q v n in grind (arith, nat_tests)

pub kind_of-here : (owners : List (ℕ × Kind)) (g : ℕ) (kind : Kind) → kind_of (give owners g kind) g ≡ Some kind
kind_of-here owners g kind = lookup-here owners g kind

pub kind_of-other : (owners : List (ℕ × Kind)) (g h : ℕ) (kind : Kind) → (h ≡ g → ⊥) → kind_of (give owners g kind) h ≡ kind_of owners h
kind_of-other owners g h kind n = lookup-other owners g h kind n
