use Rattle.toml.specs.View.{table_view}
use Rattle.rim_manifest.specs.Manifest.{manifest_faults}
use Rattle.rim_manifest.proofs.FaultsInTurn.{lowest_is, not_listed}
use Rattle.rim_manifest.proofs.manifest.lowest_fault.Goals as goal

pub returns : goal.returns
returns c = lowest_is _ (manifest_faults (table_view c.args.table.now)) _ c.in-Lowest.is c.in_ok-find_faults.ensures

pub unreachable-requires : goal.unreachable-requires
unreachable-requires c = not_listed _ (manifest_faults (table_view c.args.table.now)) _ c.in-Listed.is c.in_ok-find_faults.ensures
