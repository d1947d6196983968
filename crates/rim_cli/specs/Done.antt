-- What a run of the program has written when it is done, and why it is refused. This project's choice.
use Rattle.std.specs.Prelude.{◌≡◌, ◌≢◌, ◌⊎◌, ℕ, Bool, List, [], ◌++◌, Option, Some, None, IsOkAnd, Result, Ok, Err, codes, is_err, length, is_some, true, option_and_then, option_map, position, slice_get, if◌then◌else◌}
use Rattle.std.specs.Io.KnownBytes.{Appends}
use Rattle.clap.specs.Words.{Text, subcommand_of}
use Rattle.rim_manifest.specs.Manifest.{Answer, manifest_of, name_in}
use Rattle.rim_manifest.specs.Launches.{NamedData, ReleaseData}
use Rattle.rim_manifest.specs.declared.fault.ManifestFault.TheVariants as manifest
use Rattle.rim_accepted.specs.Accepted.{rim_for}
use Rattle.rim_accepted.specs.Devicetree.{devicetree_of}
use Rattle.rim_audit.specs.Listing.{listing_of, text_or_line}
use Rattle.rim_audit.specs.Trace.{trace_of}
use Rattle.rim_show.specs.ShownDevicetree.{IsDevicetreeFault, ShowsDevicetree}
use Rattle.rim_json.specs.ReportJson.{report_text}
use Rattle.rim_accepted.specs.Lines.{has_refused, outcomes_for}
use Rattle.rim_audit.specs.Audit.{audit_text_of}
use Rattle.rim_report.specs.Report.{measured_of, unless_too_many}
use Rattle.rim_pages.specs.Pages.{page_keys}
use Rattle.rim_show.specs.ShownImage.{image_answer_of}
use Rattle.rim_accepted.specs.declared.audit_fault.AuditFault.{AuditFault}
use Rattle.rim_accepted.specs.declared.audit_fault.AuditFault.TheVariants as audit
use Rattle.rim_show.specs.declared.fault.ShowFault.TheVariants as show
use Rattle.rim_pages.specs.declared.fault.StartFault.{StartFault}
use Rattle.rim_pages.specs.declared.fault.StartFault.TheVariants as start
use Rattle.rim_check.specs.CheckJson.{check_json_of}
use Rattle.rim_check.specs.Explained.{AreRefusals, Explains, ShowsFaults, fault_in}
use Rattle.rim_check.specs.Warned.{ShowsWarnings}
use Rattle.rim_check.specs.declared.found.ReleaseFault.{ReleaseFault}
use Rattle.rim_check.specs.declared.found.ReleaseFault.TheVariants as release
use Rattle.shown_text.specs.Lines.{Saying, SayInTurn, lines_of}
use Rattle.shown_text.specs.declared.remark.Remark.{Remark}
use Rattle.rim_words.specs.declared.definition.TheConstants.{VERSION}
use Rattle.rim_words.specs.declared.words.Format.{Format}
use Rattle.rim_words.specs.declared.words.Format.TheVariants as format
use Rattle.rim_words.specs.declared.words.Request.{Request}
use Rattle.rim_words.specs.declared.words.Ask.{Ask}
use Rattle.rim_words.specs.declared.words.Ask.TheVariants as ask
use Rattle.rim_words.specs.declared.words.ManifestAsk.TheVariants.{Measure, Audit, Check}
use Rattle.rim_words.specs.declared.words.LaunchAsk.{LaunchAsk}
use Rattle.rim_words.specs.declared.words.LaunchAsk.TheVariants.{List as Lists, Trace, Map, Dtb}
use Rattle.rim_words.specs.declared.words.FileAsk.TheVariants.{Replay, Image, Fdt}
use Rattle.rim_files.specs.declared.fault.Fault.{Fault}
use Rattle.rim_files.specs.declared.fault.Fault.TheVariants.{Manifest, NoSuchLaunch, Start, Refused, NoDevicetree, Show, NoMemory}
use Rattle.rim_words.specs.Command.{ReadsRequest, rim}
use Rattle.rim_files.specs.Files.{AreRead, IfFile, IsFileFault, IsFirstFault, Known}
use Rattle.rim_cli.specs.declared.rims.LaunchRim.{LaunchRim}
use Rattle.rim_cli.specs.Unread.{AreUnread}
use Rattle.rim_cli.specs.Mapped.{IsMapOf}
use Rattle.rim_cli.specs.Replayed.{IsReplayed}
use Rattle.rim_files.specs.Status.{status_of}

-- ---- what is answered

-- what a report calls the program: its name and its version, as `rim --version` prints them
abbrev pub program : List ℕ
program = codes "rim " ++ VERSION.now

-- the report as JSON of the release that a manifest with this path and these bytes describes, with these files
pub record IsReportAsJson (path bytes : List ℕ) (files : List (List ℕ)) (r : ReleaseData) (shown : List ℕ) : Type 0 where
  pub remarks : List (Option Remark)
  pub why : AreRefusals files r.launches remarks
  pub is : shown ≡ report_text (record {
    program = program;
    path = path;
    bytes = bytes;
    paths = r.paths;
    files = files;
    launches = r.launches;
    news = record { outcomes = outcomes_for files r.launches; remarks = remarks };
    pages = length (page_keys files r.launches);
  })

-- the report in a format, unless there are too many pages
abbrev pub IsReportOf : Format → List ℕ → List ℕ → List (List ℕ) → ReleaseData → List ℕ → Type 0
IsReportOf format.Text path bytes files r shown = measured_of files r.launches ≡ Ok shown
IsReportOf format.Json path bytes files r shown = (unless_too_many files r.launches shown ≡ Ok shown) × IsReportAsJson path bytes files r shown

-- the report of a release, where the files that it names are read, and the status that it ends with: 1 where some launch in it is refused
pub record IsReport (format : Format) (path bytes : List ℕ) (held : List ℕ → Known) (r : ReleaseData) (shown : List ℕ) (answer : ℕ) : Type 0 where
  pub files : List (List ℕ)
  pub read : AreRead held r.paths files
  pub text : IsReportOf format path bytes files r shown
  pub status : answer ≡ (if has_refused files r.launches then 1 else 0)

-- the audit of a release, in the same way
pub record IsAudit (held : List ℕ → Known) (r : ReleaseData) (shown : List ℕ) (answer : ℕ) : Type 0 where
  pub files : List (List ℕ)
  pub read : AreRead held r.paths files
  pub text : shown ≡ audit_text_of files r.launches
  pub status : answer ≡ (if has_refused files r.launches then 1 else 0)

-- what a check finds: faults, and warnings
pub record Findings : Type 0 where
  pub faults : List Remark
  pub warnings : List Remark

-- a release is checked whose files are not all read: a remark on each that cannot be, and the status is 3
pub record ChecksFiles (held : List ℕ → Known) (r : ReleaseData) (found : Findings) (answer : ℕ) : Type 0 where
  pub said : List Saying
  pub unread : AreUnread held r.paths said
  pub some : said ≢ []
  pub lines : SayInTurn said found.faults
  pub none : found.warnings ≡ []
  pub status : answer ≡ 3

-- the status that a check of launches ends with: 3 where there is no report, 1 where some launch is refused
abbrev pub check_status : Option ReleaseFault → ℕ
check_status None = 0
check_status (Some release.Refused) = 1
check_status (Some release.TooManyPages) = 3

-- one is checked whose files are read: what is at fault, and the warnings unless the check is quiet
pub record ChecksLaunches (held : List ℕ → Known) (quiet : Bool) (r : ReleaseData) (found : Findings) (answer : ℕ) : Type 0 where
  pub files : List (List ℕ)
  pub read : AreRead held r.paths files
  pub warnings : List Remark
  pub shown : found.warnings ≡ (if quiet then [] else warnings)
  pub faulty : ShowsFaults files r.launches found.faults
  pub warned : ShowsWarnings files r.launches warnings
  pub status : answer ≡ check_status (fault_in files r.launches)

-- a release is checked: its files, or its launches where all files are read
abbrev pub IsReleaseCheck : (List ℕ → Known) → Bool → ReleaseData → Findings → ℕ → Type 0
IsReleaseCheck held quiet r found status = ChecksFiles held r found status ⊎ ChecksLaunches held quiet r found status

-- a manifest with this path and these bytes is checked: a remark on each of some faults, the lowest of its faults among them, and the status
-- is 3; or else the release that it describes is
abbrev pub FindsOf : (List ℕ → Known) → Bool → List ℕ → List ℕ → Answer → Findings → ℕ → Type 0
FindsOf held quiet path bytes (Err fault) found status = Explains path bytes fault found.faults × (found.warnings ≡ []) × (status ≡ 3)
FindsOf held quiet path bytes (Ok r) found status = IsReleaseCheck held quiet r found status

abbrev pub Finds : (List ℕ → Known) → Bool → List ℕ → List ℕ → Findings → ℕ → Type 0
Finds held quiet path bytes found status = FindsOf held quiet path bytes (manifest_of bytes) found status

-- what is found, in a format: the lines of the faults and then those of the warnings; or the same lines as JSON, with the status
abbrev pub shown_in : Format → Findings → ℕ → List ℕ
shown_in format.Text found status = lines_of found.faults ++ lines_of found.warnings
shown_in format.Json found status = check_json_of found.faults found.warnings status

-- what a check prints in a format, and its status
abbrev pub IsCheckIn : Format → (List ℕ → Known) → Bool → List ℕ → List ℕ → List ℕ → ℕ → Type 0
IsCheckIn format held quiet path bytes text status = (found : Findings) × Finds held quiet path bytes found status × (text ≡ shown_in format found status)

-- what is shown of a launch with what came of it, and its status
abbrev pub IsShown : NamedData → Result (List ℕ) AuditFault → List ℕ → ℕ → Type 0
IsShown l outcome text status = (text ≡ text_or_line l outcome) × (status ≡ (if is_err outcome then 1 else 0))

-- the launch of a name
abbrev pub launch_in : ReleaseData → List ℕ → Option NamedData
launch_in r name = option_and_then (slice_get r.launches) (position (name_in name) r.launches)

-- this holds of the launch of a name and of the release's files, where the files that it names are read
pub record OfLaunch (held : List ℕ → Known) (r : ReleaseData) (name : List ℕ) (Holds : NamedData → List (List ℕ) → Type 0) : Type 0 where
  pub files : List (List ℕ)
  pub read : AreRead held r.paths files
  pub launch : NamedData
  pub named : launch_in r name ≡ Some launch
  pub holds : Holds launch files

-- the text that is asked of a launch of a release with these paths and files, or the bytes of its devicetree, and the status: 1 where the launch
-- is refused, and the text is its line of a report or its map
abbrev pub IsLaunchAnswer : LaunchAsk → List (List ℕ) → NamedData → List (List ℕ) → List ℕ → ℕ → Type 0
IsLaunchAnswer Lists paths l files text status = IsShown l (listing_of l.launch files) text status
IsLaunchAnswer Trace paths l files text status = IsShown l (trace_of l.launch files) text status
IsLaunchAnswer (Map format) paths l files text status = IsMapOf format paths l files text status
IsLaunchAnswer Dtb paths l files bytes status = (devicetree_of l.launch files ≡ Ok (Some bytes)) × (status ≡ 0)

-- the Realm Initial Measurement of the launch of a name, and the algorithm that it is by
abbrev pub IsRim : (List ℕ → Known) → ReleaseData → List ℕ → LaunchRim → Type 0
IsRim held r name m = OfLaunch held r name (λ l files. (rim_for l.launch files ≡ Ok m.rim.bytes) × (m.algo ≡ l.launch.config.algo))

-- the text that is asked of the file at a path and its status, where the file has these bytes
abbrev pub IsAnswer : (List ℕ → Known) → Ask → List ℕ → List ℕ → List ℕ → ℕ → Type 0
IsAnswer held (ask.Manifest (Measure workers format)) path bytes text status = IsOkAnd (manifest_of bytes) (λ r. IsReport format path bytes held r text status)
IsAnswer held (ask.Manifest Audit) path bytes text status = IsOkAnd (manifest_of bytes) (λ r. IsAudit held r text status)
IsAnswer held (ask.Manifest (Check quiet format)) path bytes text status = IsCheckIn format held quiet path bytes text status
IsAnswer held (ask.Launch name asked) path bytes text status =
    IsOkAnd (manifest_of bytes) (λ r. OfLaunch held r name.now (λ l files. IsLaunchAnswer asked r.paths l files text status))
IsAnswer held (ask.File Replay) path bytes text status = IsReplayed bytes text status
IsAnswer held (ask.File Image) path bytes text status = (image_answer_of bytes ≡ Ok text) × (status ≡ 0)
IsAnswer held (ask.File Fdt) path bytes text status = ShowsDevicetree bytes text × (status ≡ 0)

-- ---- why a request is refused

-- a release, where the files that it names are read, is refused for this
pub record IsNotStarted (held : List ℕ → Known) (r : ReleaseData) (fault : StartFault) : Type 0 where
  pub files : List (List ℕ)
  pub read : AreRead held r.paths files
  pub refused : measured_of files r.launches ≡ Err fault

-- a fault of the report of a release
abbrev pub IsStartFault : (List ℕ → Known) → ReleaseData → Fault → Type 0
IsStartFault held r (Start fault) = (fault ≡ start.NoMemory) ⊎ IsNotStarted held r fault
IsStartFault held r _ = ⊥

-- why the release that a manifest describes is not measured, listed or audited: the files that it names come first,
-- but a name that no launch has before them
abbrev pub RefusesReport : (List ℕ → Known) → ReleaseData → Fault → Type 0
RefusesReport held r fault = IsFirstFault held r.paths fault ⊎ IsStartFault held r fault

abbrev pub RefusesListing : (List ℕ → Known) → List ℕ → ReleaseData → Fault → Type 0
RefusesListing held name r fault = ((fault ≡ NoSuchLaunch) × (launch_in r name ≡ None))
    ⊎ ((is_some (launch_in r name) ≡ true) × IsFirstFault held r.paths fault)

-- why a launch gives no devicetree: it has none, or is refused. Nothing else that is asked of a launch has a fault of the launch
abbrev pub IsLaunchFault : LaunchAsk → NamedData → List (List ℕ) → Fault → Type 0
IsLaunchFault Dtb l files NoDevicetree = devicetree_of l.launch files ≡ Ok None
IsLaunchFault Dtb l files (Refused fault) = (fault ≡ audit.NoMemory) ⊎ (devicetree_of l.launch files ≡ Err fault)
IsLaunchFault asked l files fault = ⊥

abbrev pub RefusesLaunch : (List ℕ → Known) → List ℕ → LaunchAsk → ReleaseData → Fault → Type 0
RefusesLaunch held name asked r fault = RefusesListing held name r fault ⊎ OfLaunch held r name (λ l files. IsLaunchFault asked l files fault)

-- why the launch of a name has no measurement: the release has none, or the launch is refused
abbrev pub IsRimFault : (List ℕ → Known) → List ℕ → ReleaseData → Fault → Type 0
IsRimFault held name r (Refused fault) = OfLaunch held r name (λ l files. rim_for l.launch files ≡ Err fault)
IsRimFault held name r NoMemory = Unit {0}
IsRimFault held name r fault = IsStartFault held r fault

abbrev pub RefusesRim : (List ℕ → Known) → List ℕ → ReleaseData → Fault → Type 0
RefusesRim held name r fault = RefusesListing held name r fault ⊎ IsRimFault held name r fault

abbrev pub RefusesAudit : (List ℕ → Known) → ReleaseData → Fault → Type 0
RefusesAudit held r fault = IsFirstFault held r.paths fault

-- a fault of a manifest, where of its file this is known
abbrev pub IsManifestFault : Known → Fault → Type 0
IsManifestFault known (Manifest fault) = (fault ≡ manifest.NoMemory) ⊎ IfFile known (λ bytes. manifest_of bytes ≡ Err fault)
IsManifestFault known fault = IsFileFault known fault

-- a request is refused for its manifest, or else for the release that this describes
abbrev pub RefusesManifest : (ReleaseData → Fault → Type 0) → Known → Fault → Type 0
RefusesManifest Refuses known fault = IsManifestFault known fault ⊎ IfFile known (λ bytes. IsOkAnd (manifest_of bytes) (λ r. Refuses r fault))

abbrev pub RefusesImage : Known → Fault → Type 0
RefusesImage known (Show fault) = (fault ≡ show.NoMemory) ⊎ IfFile known (λ bytes. image_answer_of bytes ≡ Err fault)
RefusesImage known fault = IsFileFault known fault

abbrev pub RefusesFdt : Known → Fault → Type 0
RefusesFdt known (Show fault) = IfFile known (λ bytes. IsDevicetreeFault bytes fault)
RefusesFdt known fault = IsFileFault known fault

-- what is asked of a file is refused with a fault that holds, where of the file this is known
abbrev pub Refuses : (List ℕ → Known) → Ask → Known → Fault → Type 0
Refuses held (ask.Manifest (Measure workers format)) known fault = RefusesManifest (RefusesReport held) known fault
Refuses held (ask.Manifest Audit) known fault = RefusesManifest (RefusesAudit held) known fault
Refuses held (ask.Manifest (Check quiet format)) known fault = IsFileFault known fault
Refuses held (ask.Launch name asked) known fault = RefusesManifest (RefusesLaunch held name.now asked) known fault
Refuses held (ask.File Replay) known fault = IsFileFault known fault
Refuses held (ask.File Image) known fault = RefusesImage known fault
Refuses held (ask.File Fdt) known fault = RefusesFdt known fault

-- ---- how a run ends

-- the words ask for something of which this holds
pub record AsksFor (words : List Text) (Holds : Request → Type 0) : Type 0 where
  pub request : Request
  pub asked : ReadsRequest (subcommand_of rim words) request
  pub holds : Holds request

-- what a request asks for was made: its text and its status, by what is known of its file
abbrev pub IsMade : Request → (List ℕ → Known) → List ℕ → ℕ → Type 0
IsMade request held text status = IfFile (held request.path.now) (λ bytes. IsAnswer held request.ask request.path.now bytes text status)

-- the path of the file that gets the text, where a request names one
abbrev pub output_of : Request → Option (List ℕ)
output_of request = option_map (λ path. path.now) request.output

-- a text was written, and this is known of the files since: it was added to what standard output held; or that is as it was, and the file that
-- was named has just the text
abbrev pub IsWritten : Option (List ℕ) → (List ℕ → Known) → Option (List ℕ) → Option (List ℕ) → List ℕ → Type 0
IsWritten None left before after text = Appends before after text
IsWritten (Some path) left before after text = (after ≡ before) × IfFile (left path) (λ bytes. bytes ≡ text)

-- every file is as it was, except the one that the request names for its output
abbrev pub KeepsOthers : Option (List ℕ) → (held left : List ℕ → Known) → Type 0
KeepsOthers output held left = (path : List ℕ) → output ≢ Some path → left path ≡ held path

-- the request is done: its text was written, no other file changed, and the status is its own
pub record IsDone (request : Request) (held left : List ℕ → Known) (before after : Option (List ℕ)) (status : ℕ) : Type 0 where
  pub text : List ℕ
  pub made : IsMade request held text status
  pub written : IsWritten (output_of request) left before after text
  pub others : KeepsOthers (output_of request) held left

-- it is refused with a fault that holds, and the status is that fault's
pub record IsRefused (request : Request) (held : List ℕ → Known) (answer : ℕ) : Type 0 where
  pub fault : Fault
  pub refused : Refuses held request.ask (held request.path.now) fault
  pub status : answer ≡ status_of fault

-- it was made, with the status 0 or 1, or 3 of a check, but could not be written; every file is as it was
pub record IsUnwritten (request : Request) (held left : List ℕ → Known) : Type 0 where
  pub text : List ℕ
  pub status : ℕ
  pub made : IsMade request held text status
  pub kept : left ≡ held

-- it ends with 3: it is refused, and the output and every file are as they were; or it could not be written; or it is done
abbrev pub EndsWithFault : Request → (held left : List ℕ → Known) → Type 0 → Option (List ℕ) → Option (List ℕ) → ℕ → Type 0
EndsWithFault request held left Same before after status =
    (IsRefused request held status × (Same × (left ≡ held))) ⊎ (IsUnwritten request held left ⊎ IsDone request held left before after status)
