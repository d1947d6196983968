-- What is found of a document that is searched for faults. This project's choice.
use Rattle.std.specs.Prelude.{◌≡◌, ◌≢◌, ℕ, ◌+◌, ◌≤◌, All, Contains, List, [], Some, Ok, Err, length}
use Rattle.toml.specs.Data.{Members}
use Rattle.rim_manifest.specs.declared.document.Checked.{Checked}
use Rattle.rim_manifest.specs.declared.document.Checked.TheVariants.{Accepted, Refused}
use Rattle.rim_manifest.specs.declared.fault.ManifestFault.{ManifestFault}
use Rattle.rim_manifest.specs.Faults.{IsSubsequence, lowest}
use Rattle.rim_manifest.specs.Manifest.{manifest_faults, name_faults, read_of}
use Rattle.rim_manifest.specs.inside.Kept.{faults_in}
use Rattle.rim_manifest.specs.declared.fault_list.TheConstants.{FINDING_LIMIT}

-- these faults are listed, and this is the number of the others: only faults that hold are listed. All of them are listed where they are
-- as few as a list may have, and the lowest always is
pub record AreListed (faults listed : List ManifestFault) (more : ℕ) : Type 0 where
  pub some : IsSubsequence listed faults
  pub lowest : lowest listed ≡ lowest faults
  pub count : length listed + more ≡ length faults
  pub all : length faults ≤ FINDING_LIMIT → listed ≡ faults

-- The document is refused with the lowest of these faults. If tables have faults, the list is of theirs. Otherwise each fault of the list is
-- a fault of names, of files or of steps that the document has.
pub record AreFound (ms : Members) (listed : List ManifestFault) (more : ℕ) : Type 0 where
  pub fault : ManifestFault
  pub refused : read_of ms ≡ Err fault
  pub lowest : lowest listed ≡ Some fault
  pub tables : manifest_faults ms ≢ [] → AreListed (manifest_faults ms) listed more
  pub names : manifest_faults ms ≡ [] → All (Contains (name_faults ms)) listed

abbrev pub IsChecked : Members → Checked → Type 0
IsChecked ms (Accepted release) = read_of ms ≡ Ok release
IsChecked ms (Refused found) = AreFound ms (faults_in found.findings.items) found.more
