-- The lines that the values of a run make. This project's choice.
use Rattle.std.specs.Prelude.{◌≡◌, ℕ, ◌+◌, ◌==◌, IsSomeAnd, if◌then◌else◌, List, [], ◌∷◌, ◌++◌, map, option_map, Option, Some, None, Result, Ok, Err, unwrap_or}
use Rattle.std.specs.List.{filter_map, slice_get}
use Rattle.rim_desc.specs.Part.{rim_of}
use Rattle.rim_desc.specs.declared.measurement.Measurement.{Measurement}
use Rattle.page_jobs.specs.Page.{PageView, digest_of}
use Rattle.page_jobs.specs.Table.{slot_of}
use Rattle.launch_plan.specs.Links.{PlanView, chain_of, keys_of}
use Rattle.job_core.specs.Values.{Makes}
use Rattle.job_core.specs.declared.job.JobId.{JobId}
use Rattle.job_core.specs.declared.job.JobId.TheVariants.{Page, Launch}
use Rattle.ipa_layout.specs.Layout.{PlacedData}
use Rattle.rim_launch.specs.LaunchData.{LaunchData}
use Rattle.rmi_list.specs.Measured.{measured, page_contents}
use Rattle.rim_manifest.specs.Launches.{NamedData}
use Rattle.rim_accepted.specs.Accepted.{accepted_of}
use Rattle.rim_accepted.specs.Lines.{line_with}
use Rattle.rim_accepted.specs.declared.audit_fault.AuditFault.{AuditFault}

-- ---- what each job gives

-- the digest of a page, if there is such a page
abbrev pub page_value : List PageView → ℕ → List ℕ
page_value pages j = unwrap_or (option_map digest_of (slice_get pages j)) []

-- the pages of a plan, in order, if there is such a plan
abbrev pub plan_pages : List PageView → Option PlanView → List ℕ
plan_pages pages None = []
plan_pages pages (Some v) = filter_map (slot_of pages) (keys_of v.links)

abbrev pub as_digest : List ℕ → Measurement
as_digest bytes = record { bytes = bytes }

-- what a plan makes of digests of its pages
abbrev pub plan_value : Option PlanView → List (List ℕ) → List ℕ
plan_value None digests = []
plan_value (Some v) digests = chain_of v (map as_digest digests)

-- what the jobs of these pages and plans give
abbrev pub makes_of : List PageView → List PlanView → Makes
makes_of pages plans = record {
  page = page_value pages;
  keys = λ l. plan_pages pages (slice_get plans l);
  fold = λ l digests. plan_value (slice_get plans l) digests;
}

-- ---- the lines

-- the value that was put for a launch, if one was
abbrev pub launch_value : List (JobId × List ℕ) → ℕ → Option (List ℕ)
launch_value [] l = None
launch_value ((Page j, value) ∷ values) l = launch_value values l
launch_value ((Launch k, value) ∷ values) l = if k == l then Some value else launch_value values l

-- what a launch came to: the value that was put for it, or why it is refused
abbrev pub outcome_by : Result PlacedData AuditFault → Option (List ℕ) → Result (List ℕ) AuditFault
outcome_by (Err fault) value = Err fault
outcome_by (Ok p) value = Ok (unwrap_or value [])

-- only launches that are accepted are jobs
abbrev pub next_job : Result PlacedData AuditFault → ℕ → ℕ
next_job (Err fault) n = n
next_job (Ok p) n = n + 1

-- the lines of launches, of which the first that is accepted is the job of this number
abbrev pub lines_by : List (JobId × List ℕ) → List (List ℕ) → ℕ → List NamedData → List ℕ
lines_by values files n [] = []
lines_by values files n (l ∷ ls) =
    line_with l (outcome_by (accepted_of l.launch files) (launch_value values n)) ++ lines_by values files (next_job (accepted_of l.launch files) n) ls

-- ---- the value of each launch

-- a launch and its place come before others, where it is accepted
abbrev pub put_accepted : LaunchData → Result PlacedData AuditFault → List (LaunchData × PlacedData) → List (LaunchData × PlacedData)
put_accepted l (Err fault) others = others
put_accepted l (Ok p) others = (l, p) ∷ others

-- the launches that are accepted, in their order, each with its place: these are the launches of a run
abbrev pub accepted_launches : List (List ℕ) → List NamedData → List (LaunchData × PlacedData)
accepted_launches files [] = []
accepted_launches files (l ∷ ls) = put_accepted l.launch (accepted_of l.launch files) (accepted_launches files ls)

-- what the measured parts of a launch that has this place measure to
abbrev pub measured_rim : List (List ℕ) → LaunchData → PlacedData → List ℕ
measured_rim files l p = rim_of l.config.algo (measured l p (page_contents l files p))

-- a value is what the measured parts of the run's launch of a number measure to
abbrev pub IsRimOf : List (List ℕ) → List NamedData → ℕ → List ℕ → Type 0
IsRimOf files ls k value = IsSomeAnd (slice_get (accepted_launches files ls) k) (λ a. value ≡ measured_rim files a.0 a.1)
