use Rattle.std.proofs.Common.{map}
use Rattle.toml.specs.View.{view}
use Rattle.rim_rules.specs.Names.{lacks_its_file}
use Rattle.rim_rules.proofs.ListsOfValues.{list_any_map}
use Rattle.rim_rules.proofs.names.lacks_file.Goals as goal

pub returns : goal.returns
returns c = rw (← c.array.ensures, list_any_map (lacks_its_file (map view c.args.files.now)) view c.array.result.now) c.any_without.ensures
