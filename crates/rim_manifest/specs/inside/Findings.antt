-- What is kept of the faults that are found in a manifest. This project's choice.
use Rattle.rim_manifest.specs.declared.fault_list.FaultList.{FaultList}
use Rattle.rim_manifest.specs.declared.finding.Findings.{Findings}
use Rattle.rim_manifest.specs.declared.finding.Findings.TheVariants as findings
use Rattle.rim_manifest.specs.inside.Kept.{Kept, Lowest, Listed, faults_in}

abbrev pub list_kept : FaultList → Kept
list_kept l = Listed (faults_in l.findings.items) l.more

abbrev pub kept : Findings → Kept
kept (findings.Lowest least) = Lowest least
kept (findings.Listed l) = list_kept l
