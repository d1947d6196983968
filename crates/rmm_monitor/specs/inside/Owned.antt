-- Granules that have a kind. DEN0137, granule states: all but UNDELEGATED.
use Rattle.std.specs.Prelude.{ℕ, Bool, List, is_some}
use Rattle.std.specs.List.{list_all}
use Rattle.rmm_model.specs.declared.outcome.Kind.{Kind}
use Rattle.rmm_model.specs.Owners.{kind_of}

-- whether all these granules have a kind
abbrev pub all_owned : List (ℕ × Kind) → List ℕ → Bool
all_owned owners gs = list_all (λ g. is_some (kind_of owners g)) gs
