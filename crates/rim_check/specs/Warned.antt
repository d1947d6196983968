-- Warnings: what is rarely meant in launches that are accepted. What a warning says of its launch is tested alone. This project's choice.
use Rattle.std.specs.Prelude.{◌≡◌, ◌<◌, ◌^◌, ℕ, List, [], ◌∷◌, ◌++◌, Some, None, IsOk, codes, decimal, nat_lt, if◌then◌else◌}
use Rattle.std.specs.List.{AllByRecursion, slice_get}
use Rattle.rim_manifest.specs.Launches.{NamedData}
use Rattle.rim_accepted.specs.Accepted.{accepted_of}
use Rattle.shown_text.specs.declared.remark.Remark.{Remark}
use Rattle.shown_text.specs.Lines.{Saying, SayInTurn, launch_text, said_of}

-- a warning that is about a launch of this name, and this many others
abbrev pub warning_said : List ℕ → ℕ → Saying
warning_said name others = record { place = Some (launch_text name others); word = None; given = None; expected = None; help = None }

-- it is about a launch that is accepted, and counts no more others than the program can
abbrev pub IsWarning : List (List ℕ) → List NamedData → Saying → Type 0
IsWarning files ls s =
    (l : NamedData) × (number others : ℕ) × (others < 2 ^ 64) × (slice_get ls number ≡ Some l) × IsOk (accepted_of l.launch files)
    × (s ≡ warning_said l.name others)

-- that there are more warnings than are shown
abbrev pub more_said : ℕ → List Saying
more_said more = if nat_lt 0 more then said_of None (decimal more ++ codes " more") [] [] ∷ [] else []

-- remarks are warnings, each about a launch that is accepted, and then how many more there are
pub record ShowsWarnings (files : List (List ℕ)) (ls : List NamedData) (remarks : List Remark) : Type 0 where
  pub said : List Saying
  pub each : AllByRecursion (IsWarning files ls) said
  pub more : ℕ
  pub lines : SayInTurn (said ++ more_said more) remarks
