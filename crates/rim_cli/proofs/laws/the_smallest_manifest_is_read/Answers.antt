use Rattle.std.proofs.Common.{refl}
use Rattle.std.specs.Str.{chars, is_utf8}
use Rattle.toml.proofs.OnLiterals.{toml_on_literals}
use Rattle.rim_manifest.specs.Faults.{lower}
use Rattle.rim_manifest.specs.Launches.{config_of}
use Rattle.rim_manifest.specs.Manifest.{document_of, launch_faults, manifest_faults, name_faults}
use Rattle.rim_cli.proofs.laws.the_smallest_manifest_is_read.Goals as goal

pub returns : goal.returns
unfolding toml_on_literals is_utf8 chars lower config_of document_of launch_faults manifest_faults name_faults
returns c = (refl, refl, refl, refl)
