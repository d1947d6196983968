-- What granules are used for. DEN0137, granule states: a granule that is UNDELEGATED has no kind here.
use Rattle.std.specs.Prelude.{ℕ, Bool, true, false, ◌||◌, List, [], ◌∷◌, Option, Some}
use Rattle.std.specs.List.{list_all}
use Rattle.std.specs.Map.{lookup}
use Rattle.std.specs.BTreeMap.{insert_entry, is_at}
use Rattle.std.specs.Ordering.{nat_cmp}
use Rattle.rmm_model.specs.declared.outcome.Kind.{Kind}
use Rattle.rmm_model.specs.declared.outcome.Kind.TheVariants.{Delegated}
use Rattle.rmm_model.specs.Space.{has}

-- the kind of a granule, if it has one
abbrev pub kind_of : List (ℕ × Kind) → ℕ → Option Kind
kind_of owners granule = lookup (is_at (nat_cmp granule)) owners

abbrev pub is_delegated_kind : Option Kind → Bool
is_delegated_kind (Some Delegated) = true
is_delegated_kind _ = false

-- whether a granule is DELEGATED
abbrev pub is_delegated : List (ℕ × Kind) → ℕ → Bool
is_delegated owners granule = is_delegated_kind (kind_of owners granule)

-- whether all these granules are
abbrev pub all_delegated : List (ℕ × Kind) → List ℕ → Bool
all_delegated owners gs = list_all (is_delegated owners) gs

-- whether two of these granules are one
abbrev pub repeats : List ℕ → Bool
repeats [] = false
repeats (g ∷ gs) = has gs g || repeats gs

-- the kinds after this granule was given one
abbrev pub give : List (ℕ × Kind) → ℕ → Kind → List (ℕ × Kind)
give owners granule kind = insert_entry nat_cmp owners granule kind

-- and after several granules were given it
unfoldable pub give_all : List (ℕ × Kind) → List ℕ → Kind → List (ℕ × Kind)
give_all owners [] kind = owners
give_all owners (g ∷ gs) kind = give_all (give owners g kind) gs kind
