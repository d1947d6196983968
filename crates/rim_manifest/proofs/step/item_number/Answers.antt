use Rattle.toml.specs.View.{view}
use Rattle.rim_rules.specs.Names.{is_named}
use Rattle.rim_rules.proofs.ItemsFromTables.{position-map}
use Rattle.rim_manifest.proofs.step.item_number.Goals as goal

pub returns-in-Some : goal.returns-in-Some
returns-in-Some c = rw (c.in-Some.is, position-map (is_named c.in-Some.name.now) view c.args.tables.now) c.position_of.ensures
