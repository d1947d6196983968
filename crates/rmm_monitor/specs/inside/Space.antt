-- What callers see of an IPA space's fields, and what these keep. This project's choice.
use Rattle.std.specs.Prelude.{◌≡◌, ◌≤◌, ◌^◌, true}
use Rattle.rmm_model.specs.Space.{ArePlaced, Space}
use Rattle.rmm_model.specs.Apart.{are_apart}
use Rattle.rmm_monitor.specs.declared.space.IpaSpace.TheInside.{Inside}

abbrev pub shown_space : Inside → Space
shown_space s = record { start = s.start; protected_end = s.protected_end; tables = s.tables.keys; ram = s.ram.entries; assigned = s.assigned.keys }

pub record IsWellFormed (s : Inside) : Type 0 where
  pub start : s.start ≤ 2
  pub protected_end : s.protected_end ≤ 2 ^ 47
  pub tables : ArePlaced s.start s.tables.keys
  pub ram : are_apart 0 s.ram.entries ≡ true
