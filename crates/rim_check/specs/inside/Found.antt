-- The launches that warnings are about. This project's choice.
use Rattle.std.specs.Prelude.{◌≡◌, ◌||◌, ℕ, List, ◌++◌, map, Some, IsOk, is_err}
use Rattle.std.specs.List.{AllByRecursion, slice_get}
use Rattle.rim_manifest.specs.Launches.{NamedData}
use Rattle.rim_accepted.specs.Accepted.{accepted_of}
use Rattle.rim_pages.specs.Pages.{launch_keys}
use Rattle.rim_check.specs.declared.found.Found.{Found}
use Rattle.rim_check.specs.declared.warnings.Warnings.{Warnings}
use Rattle.rim_check.specs.inside.Refused.{AddsSaid}

-- the number of the first launch of each warning
abbrev pub numbers_of : Warnings → List ℕ
numbers_of w = map (λ x. x.launch) w.found.items

-- a launch of this number is accepted
pub record IsAcceptedAt (files : List (List ℕ)) (ls : List NamedData) (number : ℕ) : Type 0 where
  pub launch : NamedData
  pub there : slice_get ls number ≡ Some launch
  pub accepted : IsOk (accepted_of launch.launch files)

abbrev pub AreWarned : List (List ℕ) → List NamedData → List ℕ → Type 0
AreWarned files ls numbers = AllByRecursion (IsAcceptedAt files ls) numbers

-- numbers of accepted launches have this one more, or are as they were
abbrev pub AddsNumber : ℕ → List ℕ → List ℕ → Type 0
AddsNumber number old new = (files : List (List ℕ)) (ls : List NamedData) → IsAcceptedAt files ls number → AreWarned files ls old → AreWarned files ls new

-- what is found of launches has what is found of one more
pub record AddsFound (files : List (List ℕ)) (l : NamedData) (old new : Found) : Type 0 where
  pub said : AddsSaid files l old.refusals.items new.refusals.items
  pub refused : new.has_refused ≡ (old.has_refused || is_err (accepted_of l.launch files))
  pub pages : new.pages ≡ old.pages ++ launch_keys files l
  pub warned : (ls : List NamedData) → slice_get ls l.launch.number ≡ Some l → AreWarned files ls (numbers_of old.warnings) → AreWarned files ls (numbers_of new.warnings)
