use Rattle.ipa_layout.specs.Files.{bytes_of_files}
use Rattle.rim_binding.proofs.BoundByMeasurement.{two-launches}
use Rattle.rim_binding.proofs.laws.two_launches_are_alike.Goals as goal

pub returns : goal.returns
returns c =
    two-launches (bytes_of_files c.args.files.now) (bytes_of_files c.args.other_files.now) c.args.launch.now c.args.other.now c.args.placed.now
    c.args.other_placed.now c.launch_fits.ensures c.launch_fits-2.ensures
