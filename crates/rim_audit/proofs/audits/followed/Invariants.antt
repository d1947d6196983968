use Rattle.std.proofs.Common.{◌≡◌}
use Rattle.std.specs.List.{All}
use Rattle.ipa_layout.specs.Files.{bytes_of_files}
use Rattle.rim_audit.specs.inside.Beside.{IsOwn}
use Rattle.rim_audit.specs.inside.Commands.{state_after}
use Rattle.rim_audit.specs.inside.Copies.{IsCopyIn, IsKept}
use Rattle.rim_audit.proofs.audits.followed.Given as goal

-- the monitor was given the commands before this one, what is known is of the launch, and copies are what they say
abbrev pub invariant-loop-index : goal.invariant-loop-index
invariant-loop-index l =
    (l.monitor ≡ state_after l.commands l.index) × IsOwn l.commands l.kept.beside
    × All (IsKept (bytes_of_files l.commands.accepted.files.now)) l.kept.launches.items × All (IsCopyIn l.commands) l.copies.items
