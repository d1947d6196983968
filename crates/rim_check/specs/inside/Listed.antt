-- The lines of faults that were found in a document. This project's choice.
use Rattle.std.specs.Prelude.{◌≡◌, ◌≤◌, ◌+◌, ℕ, List, ◌++◌, length, map, Option, Some}
use Rattle.toml.specs.Data.{Members}
use Rattle.rim_manifest.specs.Faults.{IsSubsequence, lowest}
use Rattle.rim_manifest.specs.declared.fault.ManifestFault.{ManifestFault}
use Rattle.rim_manifest.specs.declared.fault.ManifestFault.TheVariants.{Syntax}
use Rattle.rim_manifest.specs.declared.finding.Place.TheVariants as place
use Rattle.rim_manifest.specs.declared.finding.Subject.TheVariants as subject
use Rattle.rim_manifest.specs.declared.finding.Finding.{Finding}
use Rattle.rim_manifest.specs.inside.Kept.{faults_in}
use Rattle.rim_check.specs.Explained.{Located, fault_said, others_said}
use Rattle.rim_check.specs.declared.manifest.ManifestCheck.{ManifestCheck}
use Rattle.rim_check.specs.declared.manifest.ManifestCheck.TheVariants.{Faulty}
use Rattle.shown_text.specs.declared.remark.Remark.{Remark}
use Rattle.shown_text.specs.Lines.{SayInTurn}
use Rattle.rim_spot.specs.declared.spot.Spot.{Spot}

-- a fault that was found, with its place in the text
abbrev pub located : Finding → Option Spot → Located
located f spot = record { fault = f.fault; spot = spot; place = f.place; subject = f.subject }

-- that a text is no document, with its place in it
abbrev pub no_document : Option Spot → Located
no_document spot = record { fault = Syntax; spot = spot; place = place.Top; subject = subject.Whole }

abbrev pub faults_at : List Located → List ManifestFault
faults_at ls = map (λ l. l.fault) ls

-- there is a remark for each fault that was found in a document
pub record ShowsFindings (path : List ℕ) (ms : Members) (found : List Finding) (remarks : List Remark) : Type 0 where
  pub faults : List Located
  pub are : faults_at faults ≡ faults_in found
  pub lines : SayInTurn (map (fault_said path (Some ms)) faults) remarks

-- there is a remark for each of some of these faults, and then how many of these faults and of the others have none
pub record ShowsList (path : List ℕ) (ms : Members) (listed : List ManifestFault) (others : ℕ) (remarks : List Remark) : Type 0 where
  pub faults : List Located
  pub some : IsSubsequence (faults_at faults) listed
  pub least : lowest (faults_at faults) ≡ lowest listed
  pub more : ℕ
  pub beside : others ≤ more
  pub within : length (faults_at faults) + more ≤ length listed + others
  pub lines : SayInTurn (map (fault_said path (Some ms)) faults ++ others_said more) remarks

-- a manifest is checked, and has such a list
abbrev pub ListsFaults : List ℕ → Members → List ManifestFault → ℕ → ManifestCheck → Type 0
ListsFaults path ms listed others (Faulty remarks spot) = ShowsList path ms listed others remarks.items
ListsFaults path ms listed others _ = ⊥
