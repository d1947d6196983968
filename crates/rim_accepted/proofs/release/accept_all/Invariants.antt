use Rattle.std.proofs.Common.{take}
use Rattle.ipa_layout.specs.Files.{bytes_of_files}
use Rattle.rim_accepted.specs.Outcomes.{AreOutcomes}
use Rattle.rim_accepted.proofs.release.accept_all.Given as goal

abbrev pub invariant-loop-launch : goal.invariant-loop-launch
invariant-loop-launch l = AreOutcomes (bytes_of_files l.files) (take l.launch-index l.launch-items) l.launches.items
