use Rattle.std.proofs.Common.{◌≡◌, ◌≤◌, ◌+◌, drop, length, take}
use Rattle.rim_manifest.specs.Faults.{IsSubsequence, lowest, noted}
use Rattle.rim_manifest.specs.inside.Kept.{faults_in}
use Rattle.rim_check.proofs.excerpt.take_excerpt.Given as goal

abbrev pub invariant-loop-finding : goal.invariant-loop-finding
invariant-loop-finding l = record {
  some : IsSubsequence (faults_in l.excerpt.findings.items) (faults_in (take l.finding-index l.listed));
  least : noted l.excerpt.least (faults_in (drop l.finding-index l.listed)) ≡ lowest (faults_in l.listed);
  beside : l.list.more ≤ l.excerpt.more;
  within : length l.excerpt.findings.items + l.excerpt.more ≤ l.finding-index + l.list.more;
}
