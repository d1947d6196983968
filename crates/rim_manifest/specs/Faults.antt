-- The faults of a manifest in their order, and the lowest of those that hold. This project's choice.
use Rattle.std.specs.Prelude.{◌≡◌, ◌⊎◌, ℕ, ◌≤◌, Bool, true, List, [], ◌∷◌, Option, Some, None, All, Contains, nat_le, nat_lt, codes, if◌then◌else◌}
use Rattle.rim_manifest.specs.declared.fault.ManifestFault.{ManifestFault}
use Rattle.rim_manifest.specs.declared.fault.ManifestFault.TheVariants.{Syntax, Version, WrongKind, UnknownKey, MissingKey, Limit, Range, TwoNames, NoSuchFile, BadStep, NoMemory}

-- the place of a fault in the order of faults
abbrev pub rank_of : ManifestFault → ℕ
rank_of Syntax = 0
rank_of Version = 1
rank_of WrongKind = 2
rank_of UnknownKey = 3
rank_of MissingKey = 4
rank_of Limit = 5
rank_of Range = 6
rank_of TwoNames = 7
rank_of NoSuchFile = 8
rank_of BadStep = 9
rank_of NoMemory = 10

-- the word that a fault is printed as
abbrev pub kind_of : ManifestFault → List ℕ
kind_of Syntax = codes "syntax"
kind_of Version = codes "version"
kind_of WrongKind = codes "wrong-kind"
kind_of UnknownKey = codes "unknown-key"
kind_of MissingKey = codes "missing-key"
kind_of Limit = codes "limit"
kind_of Range = codes "range"
kind_of TwoNames = codes "two-names"
kind_of NoSuchFile = codes "no-such-file"
kind_of BadStep = codes "bad-step"
kind_of NoMemory = codes "no-memory"

-- the lower of what was found so far and one more fault
unfoldable pub lower : Option ManifestFault → ManifestFault → Option ManifestFault
lower None f = Some f
lower (Some g) f = if nat_le (rank_of g) (rank_of f) then Some g else Some f

-- whether a fault comes before what was found so far
abbrev pub is_lower : ManifestFault → Option ManifestFault → Bool
is_lower f None = true
is_lower f (Some g) = nat_lt (rank_of f) (rank_of g)

-- the lowest of what was found so far and some more faults
abbrev pub noted : Option ManifestFault → List ManifestFault → Option ManifestFault
noted found [] = found
noted found (f ∷ fs) = noted (lower found f) fs

-- the lowest of some faults
abbrev pub lowest : List ManifestFault → Option ManifestFault
lowest fs = noted None fs

-- a fault, where a test holds
abbrev pub fault_if : Bool → ManifestFault → List ManifestFault
fault_if b f = if b then f ∷ [] else []

-- f is one of the faults, and none of them comes before it in the order
pub record IsLowest (f : ManifestFault) (fs : List ManifestFault) : Type 0 where
  pub holds : Contains fs f
  pub first : All (λ g. rank_of f ≤ rank_of g) fs

-- the first faults are some of the others, in the same order: a fault is in the first list no more often than in the second
abbrev pub IsSubsequence : List ManifestFault → List ManifestFault → Type 0
IsSubsequence [] gs = Unit {0}
IsSubsequence (f ∷ fs) [] = ⊥
IsSubsequence (f ∷ fs) (g ∷ gs) = ((f ≡ g) × IsSubsequence fs gs) ⊎ IsSubsequence (f ∷ fs) gs
