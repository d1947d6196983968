-- What a check of launches has found.
use Rattle.std.proofs.Common.{◌≡◌, ◌∙◌, ℕ, Bool, List, [], ap, inr}
use Rattle.std.specs.Prelude.{Option, if◌then◌else◌}
use Rattle.rim_check.specs.Explained.{IsLaunchCheck}
use Rattle.rim_manifest.specs.Launches.{ReleaseData}
use Rattle.rim_check.specs.declared.found.LaunchCheck.{LaunchCheck}
use Rattle.rim_check.specs.declared.found.ReleaseFault.{ReleaseFault}
use Rattle.rim_cli.specs.Done.{IsReleaseCheck, check_status}
use Rattle.rim_files.specs.Files.{AreRead, Known}
use Rattle.rim_cli.specs.declared.checking.Checked.{Checked}
use Rattle.rim_cli.specs.inside.Found.{findings_of}

pub launches-checked : (held : List ℕ → Known) (quiet : Bool) (r : ReleaseData) (files : List (List ℕ)) (check : LaunchCheck) (c : Checked)
    → AreRead held r.paths files → IsLaunchCheck files r.launches check
    → c.faults.items ≡ check.faults.items → c.warnings.items ≡ (if quiet then [] else check.warnings.items)
    → c.status ≡ check_status check.fault → IsReleaseCheck held quiet r (findings_of c) c.status
launches-checked held quiet r files check c read is faults warnings status = inr (record {
  files = files;
  read = read;
  warnings = check.warnings.items;
  shown = warnings;
  faulty = rw faults is.faults;
  warned = is.warnings;
  status = status ∙ ap (λ (fault : Option ReleaseFault). check_status fault) is.fault;
})
