-- What holds of a call that is not refused. This project's choice, as the checks of a call are.
use Rattle.std.specs.Prelude.{◌≡◌, ℕ, ◌+◌, ◌*◌, ◌%◌, ◌≤◌, true, false}
use Rattle.std.specs.List.{list_all, list_any}
use Rattle.rmm_model.specs.Blocks.{granules}
use Rattle.rmm_model.specs.Space.{has, is_ram, overlaps}
use Rattle.rtt_plan.specs.Places.{IsRegion}
use Rattle.rtt_plan.specs.Planned.{Planned, entry_count}
use Rattle.rim_desc.specs.declared.page.TheConstants.{PAGE_SIZE}
use Rattle.rtt_plan.specs.declared.counting.TheConstants.{ENTRY_LIMIT}

-- a region is whole pages in the protected half of which nothing is RAM, and its entries are not too many
pub record AcceptsRegion (p : Planned) (base end : ℕ) : Type 0 where
  pub inside : end ≤ p.space.protected_end
  pub whole : IsRegion base end
  pub fresh : overlaps p.space.ram base end ≡ false
  pub few : p.entries + entry_count p base end ≤ ENTRY_LIMIT

-- pages of data are in the protected half, RAM, and without data
pub record AcceptsData (p : Planned) (base count : ℕ) : Type 0 where
  pub inside : base + PAGE_SIZE * count ≤ p.space.protected_end
  pub whole : base % PAGE_SIZE ≡ 0
  pub in_ram : list_all (is_ram p.space.ram) (granules count base) ≡ true
  pub fresh : list_any (has p.space.assigned) (granules count base) ≡ false
