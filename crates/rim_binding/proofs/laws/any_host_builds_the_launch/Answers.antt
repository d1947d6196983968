use Rattle.ipa_layout.specs.Files.{bytes_of_files}
use Rattle.rim_binding.proofs.BoundByMeasurement.{any-host}
use Rattle.rim_binding.proofs.laws.any_host_builds_the_launch.Goals as goal

pub returns : goal.returns
returns c =
    any-host (bytes_of_files c.args.files.now) c.args.launch.now c.args.placed.now c.args.commands.now c.launch_fits.ensures c.commands_fit.ensures
