-- The faults of a manifest that are kept, as they are found one after another. This project's choice.
use Rattle.std.specs.Prelude.{◌≡◌, ℕ, ◌+◌, ◌||◌, All, Bool, Contains, List, [], ◌∷◌, ◌++◌, Option, length, map, nat_lt, if◌then◌else◌}
use Rattle.rim_manifest.specs.declared.fault.ManifestFault.{ManifestFault}
use Rattle.rim_manifest.specs.declared.finding.Finding.{Finding}
use Rattle.rim_manifest.specs.Faults.{is_lower, lower, lowest}
use Rattle.rim_manifest.specs.declared.fault_list.TheConstants.{FINDING_LIMIT}

abbrev pub faults_in : List Finding → List ManifestFault
faults_in found = map (λ f. f.fault) found

-- the lowest fault so far; or those that are listed, and how many there are beside them
pub data Kept : Type 0 where
  Lowest : Option ManifestFault → Kept
  Listed : List ManifestFault → ℕ → Kept

-- whether a fault is listed after these: while there is room, or where it is lower than each of them
abbrev pub is_listed : List ManifestFault → ManifestFault → Bool
is_listed fs f = nat_lt (length fs) FINDING_LIMIT || is_lower f (lowest fs)

-- what is kept after one more fault
abbrev pub with_fault : Kept → ManifestFault → Kept
with_fault (Lowest least) f = Lowest (lower least f)
with_fault (Listed fs more) f = if is_listed fs f then Listed (fs ++ f ∷ []) more else Listed fs (more + 1)

-- what is kept after some more faults
abbrev pub with_faults : Kept → List ManifestFault → Kept
with_faults k [] = k
with_faults k (f ∷ fs) = with_faults (with_fault k f) fs

-- some faults were added, and each of them is among these
pub record AddsOnly (allowed : List ManifestFault) (old new : Kept) : Type 0 where
  pub added : List ManifestFault
  pub each : All (Contains allowed) added
  pub are : new ≡ with_faults old added
