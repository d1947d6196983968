use Rattle.rim_manifest.specs.Manifest.{name_faults_if}
use Rattle.rim_manifest.specs.inside.Findings.{kept}
use Rattle.rim_manifest.specs.inside.Kept.{AddsOnly}
use Rattle.rim_manifest.proofs.naming.find_shared.Given as goal

abbrev pub invariant-loop-number : goal.invariant-loop-number
invariant-loop-number l = AddsOnly (name_faults_if l.has.two_names l.has.no_file l.has.bad_step) (kept l.initial.found) (kept l.found)
