-- The measured pages of a release. This project's choice.
use Rattle.std.specs.Prelude.{ℕ, List, [], map, length, nat_lt, get_or, Option, Some, Result, Ok, Err, unwrap_or, if◌then◌else◌}
use Rattle.std.specs.List.{flat_map, slice_get}
use Rattle.page_jobs.specs.Key.{rising_keys}
use Rattle.page_jobs.specs.Page.{PageView, page_named}
use Rattle.page_jobs.specs.declared.page.PageKey.{PageKey}
use Rattle.rim_desc.specs.declared.source.Source.{Source}
use Rattle.rim_desc.specs.declared.source.Source.TheVariants.{File, Edited}
use Rattle.launch_plan.specs.Keys.{measured_keys}
use Rattle.rim_launch.specs.LaunchData.{LaunchData}
use Rattle.ipa_layout.specs.Layout.{PlacedData}
use Rattle.rim_manifest.specs.Launches.{NamedData}
use Rattle.rim_accepted.specs.Accepted.{accepted_of}
use Rattle.rim_accepted.specs.Accepted.{places_of}
use Rattle.rim_accepted.specs.declared.audit_fault.AuditFault.{AuditFault}
use Rattle.rim_pages.specs.declared.fault.StartFault.{StartFault}
use Rattle.rim_pages.specs.declared.fault.StartFault.TheVariants.{TooManyPages}
use Rattle.rim_pages.specs.declared.different.TheConstants.{DISTINCT_LIMIT}

-- the keys of the measured pages of a launch that is accepted; one that is refused has none
abbrev pub keys_at : LaunchData → Result PlacedData AuditFault → List PageKey
keys_at l (Ok p) = measured_keys l p
keys_at l (Err fault) = []

-- the keys of all measured pages of a release with these files, rising, each once
unfoldable pub page_keys : List (List ℕ) → List NamedData → List PageKey
page_keys files ls = rising_keys (flat_map (λ l. keys_at l.launch (accepted_of l.launch files)) ls)

-- those of one launch
abbrev pub launch_keys : List (List ℕ) → NamedData → List PageKey
launch_keys files l = keys_at l.launch (accepted_of l.launch files)

-- the devicetree that a launch edited, if it is accepted and has one
abbrev pub edited_at : Option (Result PlacedData AuditFault) → List ℕ
edited_at (Some (Ok p)) = unwrap_or p.edited []
edited_at _ = []

-- the bytes that a source has, where the launches of the release have these places
abbrev pub source_bytes : List (List ℕ) → List (Result PlacedData AuditFault) → Source → List ℕ
source_bytes files places (File n) = get_or files n []
source_bytes files places (Edited launch) = edited_at (slice_get places launch)

-- the different measured pages of a release with these files
abbrev pub release_pages : List (List ℕ) → List NamedData → List PageView
release_pages files ls = map (page_named (source_bytes files (places_of files ls))) (page_keys files ls)

-- these pages, unless they are too many
abbrev pub pages_of : List (List ℕ) → List NamedData → Result (List PageView) StartFault
pages_of files ls = if nat_lt DISTINCT_LIMIT (length (page_keys files ls)) then Err TooManyPages else Ok (release_pages files ls)
