-- Taking tables back, the last first: what a call that finds no memory does with the tables that it made. This project's
-- choice.
use Rattle.std.specs.Prelude.{List, [], ◌∷◌}
use Rattle.std.specs.BTreeMap.{is_at}
use Rattle.std.specs.Set.{remove_key}
use Rattle.rmm_model.specs.Space.{table_cmp}
use Rattle.rmm_model.specs.declared.table.Table.{Table}
use Rattle.rtt_plan.specs.declared.act.Act.{Act}
use Rattle.rtt_plan.specs.declared.act.Act.TheVariants as act

-- the tables without one
abbrev pub without : Table → List Table → List Table
without t ts = remove_key (is_at (table_cmp t)) ts

-- the tables without those of some acts
unfoldable pub undone : List Act → List Table → List Table
undone [] ts = ts
undone (act.Table base level ∷ acts) ts = without (record { level = level; base = base }) (undone acts ts)
undone (act.Run base top level ∷ acts) ts = undone acts ts
undone (act.Pages base count ∷ acts) ts = undone acts ts
