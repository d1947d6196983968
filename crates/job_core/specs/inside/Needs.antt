-- How a core keeps what each launch needs. This project's choice.
use Rattle.std.specs.Prelude.{ℕ, List, length, map}
use Rattle.std.specs.List.{range_with_len}
use Rattle.job_core.specs.declared.needs.Needs.{Needs}
use Rattle.job_core.specs.declared.needs.Needs.TheVariants.{Listed, Reaches}
use Rattle.job_core.specs.declared.reaches.PageGroup.{PageGroup}
use Rattle.job_core.specs.Jobs.{NeedsWithin}
use Rattle.job_core.specs.inside.Reaches.{AreGroups, IsIndex, reach_needs}

-- the numbers of the pages that each launch needs
abbrev pub needs_of : Needs → List (List ℕ)
needs_of (Listed lists groups) = map (λ v. v.items) lists.items
needs_of (Reaches launches groups) = map (reach_needs groups.items) (range_with_len 0 launches)

abbrev pub groups_of : Needs → List PageGroup
groups_of (Listed lists groups) = groups.items
groups_of (Reaches launches groups) = groups.items

-- needs of pages with numbers below one, which are kept in groups
pub record AreNeeds (pages : ℕ) (n : Needs) : Type 0 where
  pub within : NeedsWithin (needs_of n) pages
  pub groups : AreGroups pages (length (needs_of n)) (groups_of n)
  pub index : IsIndex (needs_of n) (groups_of n)
