use Rattle.toml.specs.View.{view}
use Rattle.rim_rules.specs.Names.{is_named}
use Rattle.rim_rules.proofs.ListsOfValues.{list_any_map}
use Rattle.rim_rules.proofs.names.has_file.Goals as goal

pub returns : goal.returns
returns c = rw (← c.text.ensures, list_any_map (is_named c.text.result.now) view c.args.files.now) c.is_any_named.ensures
