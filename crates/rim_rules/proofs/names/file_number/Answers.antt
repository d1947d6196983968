use Rattle.toml.specs.View.{view}
use Rattle.rim_rules.specs.Names.{is_named}
use Rattle.rim_rules.proofs.ItemsFromTables.{position-map}
use Rattle.rim_rules.proofs.names.file_number.Goals as goal

pub returns : goal.returns
returns c =
    rw (
      ← c.text.ensures,
      ← c.as_bytes.ensures.value,
      position-map (is_named c.as_bytes.result.now) view c.args.files.now,
      ← c.position_of.ensures,
    ) c.unwrap_or.ensures
