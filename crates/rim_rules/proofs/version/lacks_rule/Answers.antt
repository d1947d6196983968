use Rattle.std.proofs.Common.{◌≡◌, List, map, Bool, codes, sym, rules}
use Rattle.std.specs.List.{list_any}
use Rattle.toml.specs.Data.{Data}
use Rattle.toml.specs.View.{view}
use Rattle.toml.specs.declared.value.Value.{Value}
use Rattle.rim_rules.specs.Values.{array_at}
use Rattle.rim_rules.specs.Versions.{is_not_runnable}
use Rattle.rim_rules.proofs.ListsOfValues.{list_any_map}
use Rattle.rim_rules.proofs.version.lacks_rule.Goals as goal

-- what the RECs are found to be is said of their tables
of_tables : (recs : List Value) (launch : Data) (b : Bool) → map view recs ≡ array_at (codes "rec") launch → b ≡ list_any (λ r. is_not_runnable (view r)) recs
    → list_any is_not_runnable (array_at (codes "rec") launch) ≡ b
of_tables recs launch b are h = sym (rw (← are, list_any_map is_not_runnable view recs) h)

pub returns-then-any_not_runnable : goal.returns-then-any_not_runnable
returns-then-any_not_runnable c = rw (
  c.in-Two.is,
  of_tables c.array.result.now (view c.args.launch.now) c.any_not_runnable.result c.array.ensures c.any_not_runnable.ensures,
  c.if-any_not_runnable.true,
  c.field.ensures,
) (search rules)

pub returns-else-any_not_runnable : goal.returns-else-any_not_runnable
returns-else-any_not_runnable c = rw (
  c.in-Two.is,
  of_tables c.array.result.now (view c.args.launch.now) c.any_not_runnable.result c.array.ensures c.any_not_runnable.ensures,
  c.if-any_not_runnable.false,
)
