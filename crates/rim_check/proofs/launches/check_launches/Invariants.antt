use Rattle.std.proofs.Common.{take}
use Rattle.ipa_layout.specs.Files.{bytes_of_files}
use Rattle.rim_check.proofs.LaunchLines.{AreChecked}
use Rattle.rim_check.proofs.launches.check_launches.Given as goal

abbrev pub invariant-loop-launch : goal.invariant-loop-launch
invariant-loop-launch l = AreChecked (bytes_of_files l.loaded.files.now) l.loaded.release.now.launches (take l.launch-index l.launches) l.found
