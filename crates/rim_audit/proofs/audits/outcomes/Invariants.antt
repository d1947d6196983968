use Rattle.std.proofs.Common.{◌≡◌, map, take}
use Rattle.ipa_layout.specs.Files.{bytes_of_files}
use Rattle.rim_accepted.specs.Accepted.{rim_for}
use Rattle.rim_accepted.specs.Lines.{seen}
use Rattle.rim_audit.specs.inside.Copies.{AreKept}
use Rattle.rim_audit.proofs.audits.outcomes.Given as goal

-- what came of the launches before this one, and what is kept is of these files
abbrev pub invariant-loop-number : goal.invariant-loop-number
invariant-loop-number g l =
    (map seen l.found.items ≡ map (λ launch. rim_for launch.launch (bytes_of_files l.files)) (take l.number l.launch-items))
    × AreKept (bytes_of_files l.files) l.kept
