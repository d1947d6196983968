use Rattle.std.proofs.Common.{◌≡◌, ◌≤◌, length, map, take}
use Rattle.std.specs.Prelude.{vec_capacity}
use Rattle.sha2.specs.Sha256.{sha256}
use Rattle.ipa_layout.specs.Files.{bytes_of_files}
use Rattle.rim_report.proofs.file_digests.slots.all_digests.Given as goal

-- what was made, and the room for the rest
abbrev pub invariant-loop-number : goal.invariant-loop-number
invariant-loop-number l =
    (l.digests.items ≡ map sha256 (take l.number (bytes_of_files l.files))) × (length l.files ≤ vec_capacity l.digests)
