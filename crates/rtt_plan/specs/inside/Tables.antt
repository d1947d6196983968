-- What callers see of the planner's fields, and what these keep. This project's choice.
use Rattle.std.specs.Prelude.{◌≡◌, ◌≤◌, ◌^◌, true}
use Rattle.rmm_model.specs.Space.{ArePlaced}
use Rattle.rmm_model.specs.Apart.{are_apart}
use Rattle.rtt_plan.specs.inside.PageRanges.{are_pages, pages_of}
use Rattle.rtt_plan.specs.Planned.{Planned}
use Rattle.rtt_plan.specs.declared.tables.Tables.TheInside.{Inside}
use Rattle.rtt_plan.specs.declared.counting.TheConstants.{ENTRY_LIMIT}

abbrev pub shown_plan : Inside → Planned
shown_plan t = record {
  space = record { start = t.start; protected_end = t.protected_end; tables = t.tables.keys; ram = t.ram.entries; assigned = pages_of t.assigned.entries };
  least_level = t.least_level;
  entries = t.entries;
}

pub record IsWellFormed (t : Inside) : Type 0 where
  pub start : t.start ≤ t.least_level
  pub least_level : t.least_level ≤ 3
  pub protected_end : t.protected_end ≤ 2 ^ 47
  pub entries : t.entries ≤ ENTRY_LIMIT
  pub tables : ArePlaced t.start t.tables.keys
  pub ram : are_pages t.ram.entries ≡ true
  pub ram_apart : are_apart 0 t.ram.entries ≡ true
  pub assigned : are_pages t.assigned.entries ≡ true
  pub assigned_apart : are_apart 0 t.assigned.entries ≡ true
