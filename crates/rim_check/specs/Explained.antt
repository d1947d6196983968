-- What is said of a manifest's faults and of the launches that are refused. This project's choice.
use Rattle.std.specs.Prelude.{◌≡◌, ◌⊎◌, ◌≤◌, ◌+◌, ℕ, Bool, List, [], ◌∷◌, ◌++◌, ◌==◌, length, map, Option, Some, None, IsOk, Ok, Err, codes, decimal, nat_lt, option_map, if◌then◌else◌}
use Rattle.rim_manifest.specs.declared.fault.ManifestFault.{ManifestFault}
use Rattle.rim_manifest.specs.declared.fault.ManifestFault.TheVariants.{Syntax}
use Rattle.rim_manifest.specs.Faults.{IsSubsequence, kind_of, lowest}
use Rattle.rim_manifest.specs.Found.{AreFound}
use Rattle.rim_manifest.specs.Launches.{NamedData, item_name}
use Rattle.rim_manifest.specs.Manifest.{Answer, document_of}
use Rattle.rim_manifest.specs.declared.finding.Place.{Place}
use Rattle.rim_manifest.specs.declared.finding.Subject.{Subject}
use Rattle.rim_spot.specs.declared.spot.Spot.{Spot}
use Rattle.toml.specs.Data.{Members}
use Rattle.rim_accepted.specs.Accepted.{rim_for}
use Rattle.rim_accepted.specs.AuditFaults.{audit_kind_of}
use Rattle.rim_accepted.specs.Lines.{has_refused}
use Rattle.rim_accepted.specs.Reasons.{IsRefusedFor, audit_fault_of}
use Rattle.rim_accepted.specs.declared.reason.LaunchReason.{LaunchReason}
use Rattle.rim_pages.specs.Faults.{start_kind_of}
use Rattle.rim_pages.specs.Pages.{page_keys}
use Rattle.rim_pages.specs.declared.fault.StartFault.TheVariants as start
use Rattle.rim_pages.specs.declared.different.TheConstants.{DISTINCT_LIMIT}
use Rattle.rim_check.specs.Details.{reason_detail, reason_expected}
use Rattle.rim_hints.specs.Fronts.{place_text, spot_text}
use Rattle.shown_text.specs.declared.remark.Remark.{Remark}
use Rattle.shown_text.specs.Lines.{Saying, SayInTurn, Says, launch_text, said_of}
use Rattle.rim_check.specs.Warned.{ShowsWarnings}
use Rattle.rim_check.specs.declared.found.LaunchCheck.{LaunchCheck}
use Rattle.rim_check.specs.declared.found.ReleaseFault.{ReleaseFault}
use Rattle.rim_check.specs.declared.found.ReleaseFault.TheVariants.{Refused, TooManyPages}
use Rattle.rim_check.specs.declared.manifest.ManifestCheck.{ManifestCheck}
use Rattle.rim_check.specs.declared.manifest.ManifestCheck.TheVariants.{Faulty, Readable}

-- ---- manifests

-- a fault with its place in the text, where that is known, and in the document
pub record Located : Type 0 where
  pub fault : ManifestFault
  pub spot : Option Spot
  pub place : Place
  pub subject : Subject

-- where a fault is: the manifest's path, the place in the text, and the table with its key where the text is a document
abbrev pub fault_place : List ℕ → Option Members → Located → Option (List ℕ)
fault_place path None l = Some (path ++ (spot_text l.spot ++ []))
fault_place path (Some ms) l = option_map (λ place. path ++ (spot_text l.spot ++ place)) (place_text ms l.place l.subject)

-- what is said of a fault of a manifest: where it is, and its word
abbrev pub fault_said : List ℕ → Option Members → Located → Saying
fault_said path document l = record {
  place = fault_place path document l;
  word = Some (kind_of l.fault);
  given = None;
  expected = None;
  help = None;
}

-- that there are more faults than have a line
abbrev pub others_text : ℕ → List ℕ
others_text more = decimal more ++ (if more == 1 then codes " more fault" else codes " more faults")

abbrev pub others_said : ℕ → List Saying
others_said more = if nat_lt 0 more then said_of (Some []) (others_text more) [] [] ∷ [] else []

-- These faults have a line, and this is the number of the others. A text that is no document has one fault. The faults of a document that
-- have a line are some of those that were found in it, in their order. The others are at least the faults that are not listed; a listed
-- fault without a line is one of the others, or has the cause of another fault.
abbrev pub AreShown : Option Members → List ManifestFault → ℕ → Type 0
AreShown None shown more = (shown ≡ Syntax ∷ []) × (more ≡ 0)
AreShown (Some ms) shown more =
    (listed : List ManifestFault) × (others : ℕ) × AreFound ms listed others × IsSubsequence shown listed
    × (others ≤ more) × (length shown + more ≤ length listed + others)

-- there is a remark for each of some faults that were found in the manifest with this path and these bytes, and then how many more there
-- are; the lowest of those with a remark is the one that the manifest is refused with
pub record Explains (path bytes : List ℕ) (fault : ManifestFault) (remarks : List Remark) : Type 0 where
  pub faults : List Located
  pub lowest : lowest (map (λ l. l.fault) faults) ≡ Some fault
  pub more : ℕ
  pub shown : AreShown (document_of bytes) (map (λ l. l.fault) faults) more
  pub lines : SayInTurn (map (fault_said path (document_of bytes)) faults ++ others_said more) remarks

-- a manifest is explained as faulty exactly where it is refused
abbrev pub IsCheckOf : List ℕ → List ℕ → Answer → ManifestCheck → Type 0
IsCheckOf path bytes (Err fault) (Faulty remarks spot) = Explains path bytes fault remarks.items
IsCheckOf path bytes (Ok release) (Readable read) = read ≡ release
IsCheckOf path bytes _ _ = ⊥

-- ---- launches

-- what is said of a launch that is refused for this reason: its name, the word of its refusal, and the reason. Nothing is known of what helps
abbrev pub refusal_said : NamedData → LaunchReason → Saying
refusal_said l why = record {
  place = Some (launch_text l.name 0);
  word = Some (audit_kind_of (audit_fault_of why));
  given = Some (reason_detail (item_name l) l.launch.config why);
  expected = Some (reason_expected why);
  help = None;
}

-- the remark on a launch: none where it is accepted, and else one that says for which reason it is refused
abbrev pub IsRefusalOf : List (List ℕ) → NamedData → Option Remark → Type 0
IsRefusalOf files l None = IsOk (rim_for l.launch files)
IsRefusalOf files l (Some r) = (why : LaunchReason) × IsRefusedFor l.launch files why × Says (refusal_said l why) r

-- of each launch
abbrev pub AreRefusals : List (List ℕ) → List NamedData → List (Option Remark) → Type 0
AreRefusals files [] [] = Unit {0}
AreRefusals files (l ∷ ls) (r ∷ rs) = IsRefusalOf files l r × AreRefusals files ls rs
AreRefusals files _ _ = ⊥

-- what is said of a launch: nothing where it is accepted, else its refusal
abbrev pub IsSaidOf : List (List ℕ) → NamedData → List Saying → Type 0
IsSaidOf files l said = (IsOk (rim_for l.launch files) × (said ≡ []))
    ⊎ ((why : LaunchReason) × IsRefusedFor l.launch files why × (said ≡ refusal_said l why ∷ []))

-- what is said of the launches of a manifest, in their order
abbrev pub AreSaidOf : List (List ℕ) → List NamedData → List Saying → Type 0
AreSaidOf files [] said = said ≡ []
AreSaidOf files (l ∷ ls) said = (own others : List Saying) × IsSaidOf files l own × AreSaidOf files ls others × (said ≡ own ++ others)

-- how many different measured pages a release has, and how many it may have
abbrev pub pages_saying : ℕ → Saying
pages_saying count =
    said_of (Some (start_kind_of start.TooManyPages)) (codes "manifest") (decimal count ++ codes " different measured pages")
    (codes "at most " ++ decimal DISTINCT_LIMIT)

-- what is said of the pages of a release, where the launches that are accepted have too many different measured ones
abbrev pub pages_said : ℕ → List Saying
pages_said count = if nat_lt DISTINCT_LIMIT count then pages_saying count ∷ [] else []

-- there is one remark for each launch that is refused, and then one where there are too many pages
pub record ShowsFaults (files : List (List ℕ)) (ls : List NamedData) (remarks : List Remark) : Type 0 where
  pub said : List Saying
  pub are : AreSaidOf files ls said
  pub lines : SayInTurn (said ++ pages_said (length (page_keys files ls))) remarks

-- what is at fault where there are this many of these pages, and some launch is refused or none is
abbrev pub fault_of : ℕ → Bool → Option ReleaseFault
fault_of count has_refused = if nat_lt DISTINCT_LIMIT count then Some TooManyPages else if has_refused then Some Refused else None

-- what is at fault in a release: that it has no report, else that a line of its report says of a launch that it is refused
abbrev pub fault_in : List (List ℕ) → List NamedData → Option ReleaseFault
fault_in files ls = fault_of (length (page_keys files ls)) (has_refused files ls)

-- what a check of launches finds
pub record IsLaunchCheck (files : List (List ℕ)) (ls : List NamedData) (check : LaunchCheck) : Type 0 where
  pub fault : check.fault ≡ fault_in files ls
  pub faults : ShowsFaults files ls check.faults.items
  pub warnings : ShowsWarnings files ls check.warnings.items
