-- The report of a release. This project's choice.
use Rattle.std.specs.Prelude.{ℕ, Bool, ◌&&◌, List, ◌++◌, length, nat_le, nat_lt, codes, Result, Ok, Err, if◌then◌else◌}
use Rattle.std.specs.Fmt.{decimal}
use Rattle.rim_manifest.specs.Launches.{NamedData}
use Rattle.rim_accepted.specs.Lines.{lines_of}
use Rattle.rim_pages.specs.Pages.{page_keys}
use Rattle.rim_pages.specs.declared.fault.StartFault.{StartFault}
use Rattle.rim_pages.specs.declared.fault.StartFault.TheVariants.{TooManyPages, Workers}
use Rattle.rim_pages.specs.declared.different.TheConstants.{DISTINCT_LIMIT}
use Rattle.job_core.specs.declared.machine.TheConstants.{WORKER_LIMIT}

-- a report of these lines, for a release with this many different measured pages
abbrev pub report_with : List ℕ → ℕ → List ℕ
report_with lines count = ((codes "rim-report 1\n" ++ lines) ++ codes "pages ") ++ (decimal count ++ codes "\n")

-- the whole report
abbrev pub report_of : List (List ℕ) → List NamedData → List ℕ
report_of files ls = report_with (lines_of files ls) (length (page_keys files ls))

-- a text about launches, unless these have too many different measured pages
abbrev pub unless_too_many : List (List ℕ) → List NamedData → List ℕ → Result (List ℕ) StartFault
unless_too_many files ls text = if nat_lt DISTINCT_LIMIT (length (page_keys files ls)) then Err TooManyPages else Ok text

-- the report, unless there are too many
abbrev pub measured_of : List (List ℕ) → List NamedData → Result (List ℕ) StartFault
measured_of files ls = unless_too_many files ls (report_of files ls)

-- whether a run may have this many workers
abbrev pub is_crew : ℕ → Bool
is_crew workers = nat_le 1 workers && nat_le workers WORKER_LIMIT

-- the report that a run of this many workers makes
abbrev pub started_of : ℕ → List (List ℕ) → List NamedData → Result (List ℕ) StartFault
started_of workers files ls = if is_crew workers then measured_of files ls else Err Workers
