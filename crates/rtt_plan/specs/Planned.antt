-- What was planned so far, and what a call plans: its first fault, or its acts. The names of the faults and
-- their order are this project's choice.
use Rattle.std.specs.Prelude.{◌≡◌, ◌≤◌, ℕ, ◌+◌, ◌*◌, max, not, ◌||◌, nat_lt, List, [], ◌∷◌, ◌++◌, length, Result}
use Rattle.std.specs.List.{list_all, list_any}
use Rattle.refusal.specs.Checks.{Check, unless_refused}
use Rattle.rmm_model.specs.Blocks.{granules, is_multiple}
use Rattle.rmm_model.specs.Space.{SameSpace, Space, empty_space, has, is_ram, overlaps}
use Rattle.rmm_model.specs.Start.{protected_end, start_level}
use Rattle.rtt_plan.specs.declared.act.Act.{Act}
use Rattle.rtt_plan.specs.declared.fault.PlanFault.{PlanFault}
use Rattle.rtt_plan.specs.declared.fault.PlanFault.TheVariants.{OutsideProtected, Unaligned, RipasTwice, NotRam, DataTwice, TooManyEntries}
use Rattle.rtt_plan.specs.Entries as region
use Rattle.rtt_plan.specs.Runs.{runs_of}
use Rattle.rtt_plan.specs.Agreement.{IsFormed, IsUsed}
use Rattle.rtt_plan.specs.Missing.{page_acts, page_tables, run_acts, run_tables}
use Rattle.rim_desc.specs.declared.page.TheConstants.{PAGE_SIZE}
use Rattle.rtt_plan.specs.declared.counting.TheConstants.{ENTRY_LIMIT}

pub record Planned : Type 0 where
  pub space : Space
  -- the least level of a block of RAM
  pub least_level : ℕ
  -- how many entries all regions so far have
  pub entries : ℕ

-- the least level of a block of RAM, which is no larger than an entry of a start table
abbrev pub least_level_of : ℕ → ℕ → ℕ
least_level_of s2sz block_level = max block_level (start_level s2sz)

-- nothing was planned
abbrev pub nothing_planned : ℕ → ℕ → Planned
nothing_planned s2sz block_level =
    record { space = empty_space (start_level s2sz) (protected_end s2sz); least_level = least_level_of s2sz block_level; entries = 0 }

-- how many entries a region has
abbrev pub entry_count : Planned → ℕ → ℕ → ℕ
entry_count p base end = length (region.entries base end p.least_level)

abbrev pub region_checks : Planned → ℕ → ℕ → List (Check PlanFault)
region_checks p base end =
    (OutsideProtected, nat_lt p.space.protected_end end)
    ∷ (Unaligned, not (is_multiple PAGE_SIZE base) || not (is_multiple PAGE_SIZE end))
    ∷ (RipasTwice, overlaps p.space.ram base end)
    ∷ (TooManyEntries, nat_lt ENTRY_LIMIT (p.entries + entry_count p base end)) ∷ []

abbrev pub region_acts : Planned → ℕ → ℕ → List Act
region_acts p base end = run_acts p.space.start p.space.tables (runs_of base end p.least_level)

-- what a region of RAM plans
unfoldable pub plan_region : Planned → ℕ → ℕ → Result (List Act) PlanFault
plan_region p base end = unless_refused (region_checks p base end) (region_acts p base end)

abbrev pub data_checks : Planned → ℕ → ℕ → List (Check PlanFault)
data_checks p base count =
    (OutsideProtected, nat_lt p.space.protected_end (base + PAGE_SIZE * count))
    ∷ (Unaligned, not (is_multiple PAGE_SIZE base))
    ∷ (NotRam, not (list_all (is_ram p.space.ram) (granules count base)))
    ∷ (DataTwice, list_any (has p.space.assigned) (granules count base)) ∷ []

abbrev pub data_acts : Planned → ℕ → ℕ → List Act
data_acts p base count = page_acts p.space.start p.space.tables (granules count base)

-- what pages of data plan
unfoldable pub plan_data : Planned → ℕ → ℕ → Result (List Act) PlanFault
plan_data p base count = unless_refused (data_checks p base count) (data_acts p base count)

-- the plan after a region: the tables of its runs, and the region as RAM
abbrev pub after_region : Planned → ℕ → ℕ → Planned
after_region p base end = record {
  space = record p.space {
    tables = run_tables p.space.start p.space.tables (runs_of base end p.least_level);
    ram = p.space.ram ++ (base, end) ∷ [];
  };
  least_level = p.least_level;
  entries = p.entries + entry_count p base end;
}

-- and after pages of data: the tables of the pages, and the pages
abbrev pub after_data : Planned → ℕ → ℕ → Planned
after_data p base count = record p {
  space = record p.space {
    tables = page_tables p.space.start p.space.tables (granules count base);
    assigned = p.space.assigned ++ granules count base;
  };
}

-- two plans whose spaces are the same, with the same least level and number of entries
pub record AgreesWith (p q : Planned) : Type 0 where
  pub space : SameSpace p.space q.space
  pub least_level : p.least_level ≡ q.least_level
  pub entries : p.entries ≡ q.entries

-- what each plan keeps: its tables are formed and used, and its levels are in order
pub record IsPlanned (p : Planned) : Type 0 where
  pub formed : IsFormed p.space.start p.space.tables
  pub used : IsUsed p.space.tables p.space.ram
  pub highest : p.space.start ≤ 2
  pub allowed : p.space.start ≤ p.least_level
  pub deepest : p.least_level ≤ 3
