use Rattle.std.proofs.Common.{◌≡◌, drop, map}
use Rattle.toml.specs.View.{view}
use Rattle.rim_rules.specs.Names.{share_names}
use Rattle.rim_rules.proofs.names.share_names.Given as goal

abbrev pub invariant-tables : goal.invariant-tables
invariant-tables l = share_names (map view (drop l.i l.tables)) ≡ share_names (map view l.tables)
