-- What launches come to, as they are laid out one after another. This project's choice.
use Rattle.std.specs.Prelude.{◌≡◌, ℕ, List, [], ◌∷◌, length, Option, Some, None, Result, Ok, Err}
use Rattle.std.specs.Result.{result_map_both}
use Rattle.ipa_layout.specs.Files.{bytes_of_files}
use Rattle.ipa_layout.specs.Layout.{PlacedData}
use Rattle.rim_launch.specs.LaunchData.{LaunchData}
use Rattle.rim_manifest.specs.Launches.{AreNumbered, NamedData, ReleaseData}
use Rattle.rim_accepted.specs.Accepted.{accepted_of}
use Rattle.rim_accepted.specs.Reasons.{IsRefusedFor, audit_fault_of}
use Rattle.rim_accepted.specs.declared.accepted.AcceptedLaunch.{AcceptedLaunch}
use Rattle.rim_accepted.specs.declared.audit_fault.AuditFault.{AuditFault}
use Rattle.rim_accepted.specs.declared.reason.LaunchReason.{LaunchReason}
use Rattle.rim_accepted.specs.declared.reason.LaunchReason.TheVariants.{Layout, List as Lists}
use Rattle.rim_accepted.specs.declared.refused.RefusedLaunch.{RefusedLaunch}

-- a launch is accepted, with its place, or refused for this reason
abbrev pub IsReasoned : LaunchData → List (List ℕ) → Result AcceptedLaunch RefusedLaunch → Type 0
IsReasoned l files (Ok a) = accepted_of l files ≡ Ok a.placed
IsReasoned l files (Err r) = IsRefusedFor l files r.reason

-- what a launch comes to: it is accepted, with these files, or refused for its reason
abbrev pub IsOutcome : List (List ℕ) → NamedData → Result AcceptedLaunch RefusedLaunch → Type 0
IsOutcome files l (Ok a) = (a.named.now ≡ l) × (bytes_of_files a.files.now ≡ files)
IsOutcome files l (Err r) = (r.named.now ≡ l) × (bytes_of_files r.files.now ≡ files) × IsRefusedFor l.launch files r.reason

-- the result of a call for a launch, with the fault of a launch that is refused
abbrev pub came_to : {X Y : Type 0} → (X → Y) → Result X RefusedLaunch → Result Y AuditFault
came_to f found = result_map_both f (λ r. audit_fault_of r.reason) found

-- the place of a launch that is accepted
abbrev pub place_of : Result AcceptedLaunch RefusedLaunch → Result PlacedData AuditFault
place_of outcome = came_to (λ a. a.placed) outcome

-- the place of a launch whose list is refused for this reason
abbrev pub placed_before : LaunchReason → Option PlacedData
placed_before (Layout why) = None
placed_before (Lists p why granules) = Some p

-- the place of a launch that could be laid out, also where its list is refused
abbrev pub place_in : Result AcceptedLaunch RefusedLaunch → Option PlacedData
place_in (Ok a) = Some a.placed
place_in (Err r) = placed_before r.reason

-- of each launch
abbrev pub AreOutcomes : List (List ℕ) → List NamedData → List (Result AcceptedLaunch RefusedLaunch) → Type 0
AreOutcomes files [] [] = Unit {0}
AreOutcomes files [] (r ∷ rs) = ⊥
AreOutcomes files (l ∷ ls) [] = ⊥
AreOutcomes files (l ∷ ls) (r ∷ rs) = IsOutcome files l r × AreOutcomes files ls rs

-- a release with its files, and what its launches come to
pub record OutcomesView : Type 0 where
  pub release : ReleaseData
  pub files : List (List ℕ)
  pub launches : List (Result AcceptedLaunch RefusedLaunch)

-- the launches have their numbers, all files are there, and each launch is what it comes to
abbrev pub IsLaidOut : OutcomesView → Type 0
IsLaidOut v = AreNumbered v.release × (length v.files ≡ length v.release.paths) × AreOutcomes v.files v.release.launches v.launches
