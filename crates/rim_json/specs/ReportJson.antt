-- The report of a release as JSON. Members are in the order of their keys. This project's choice.
use Rattle.std.specs.Prelude.{ℕ, ◌+◌, List, [], ◌∷◌, ◌++◌, codes, count_by, length, map, Option, Some, None, option_and_then, option_map, Result, Ok, Err}
use Rattle.std.specs.List.{slice_get}
use Rattle.std.specs.Result.{result_ok}
use Rattle.base64.specs.Engines.{standard}
use Rattle.base64.specs.GeneralPurpose.{encode_of}
use Rattle.hex.specs.Hex.{encode_lower}
use Rattle.serde_json.specs.Data.{Data, array, boolean, member, Members, no_members, object, put, string}
use Rattle.serde_json.specs.View.{items_of}
use Rattle.serde_json.specs.Written.{compact_text}
use Rattle.sha2.specs.Sha256.{sha256}
use Rattle.rim_desc.specs.declared.measurement.Algo.{Algo}
use Rattle.rim_desc.specs.Measurement.{algo_word}
use Rattle.rim_desc.specs.Numbers.{rmm_1_0}
use Rattle.rim_desc.specs.declared.numbers.RealmNumbers.{RealmNumbers}
use Rattle.rim_launch.specs.LaunchData.{LaunchData}
use Rattle.rim_launch.specs.declared.config.Config.{Config}
use Rattle.ipa_layout.specs.Layout.{PlacedData, places}
use Rattle.rim_manifest.specs.Launches.{NamedData, item_name}
use Rattle.rmi_line.specs.Ends.{digest_bytes}
use Rattle.rim_accepted.specs.AuditFaults.{audit_kind_of}
use Rattle.rim_accepted.specs.declared.audit_fault.AuditFault.{AuditFault}
use Rattle.shown_text.specs.RemarkJson.{remark_json}
use Rattle.shown_text.specs.declared.remark.Remark.{Remark}
use Rattle.map_rows.specs.Rows.{rows_of}
use Rattle.map_rows.specs.Stretches.{region_stretch}
use Rattle.launch_json.specs.Items.{count, items_json, rule_json, stated_items_json, stretch_json, text_json}

-- ---- files

-- a file by its path, as it was given: how many bytes it has, and their SHA-256 digest, with two lower case hexadecimal digits for each byte
unfoldable pub file_json : List ℕ → List ℕ → Data
file_json path bytes =
    object (member (codes "bytes") (count (length bytes))
    (member (codes "path") (string path) (member (codes "sha256") (string (encode_lower (sha256 bytes))) no_members)))

-- each file by its path. A path without a file is left out; a release that is measured has a file at each
abbrev pub files_json : List (List ℕ) → List (List ℕ) → List Data
files_json [] files = []
files_json (path ∷ paths) [] = []
files_json (path ∷ paths) (bytes ∷ files) = file_json path bytes ∷ files_json paths files

-- ---- what a launch is

-- some members, and a number of each name
abbrev pub with_counts : Members → List (List ℕ × ℕ) → Members
with_counts ms [] = ms
with_counts ms (field ∷ fields) = with_counts (put field.0 (count field.1) ms) fields

-- the numbers of a realm's parameters by their names
abbrev pub number_counts : RealmNumbers → List (List ℕ × ℕ)
number_counts numbers = map (λ row. (row.name, row.value numbers)) rmm_1_0

-- the realm's parameters that are measured beside the hash algorithm and the width of an IPA: DEN0137, RmiRealmParams
unfoldable pub parameters_json : Config → Data
parameters_json c = object (put (codes "sve") (boolean c.sve) (put (codes "pmu") (boolean c.pmu) (with_counts no_members (number_counts c.numbers))))

-- how many RECs a launch has, how many of them may be run, and which extend the measurement
unfoldable pub recs_json : LaunchData → Data
recs_json l =
    object (member (codes "count") (count (length l.recs)) (member (codes "rule") (rule_json l.config.rec_rule)
    (member (codes "runnable") (count (count_by (λ r. r.runnable) l.recs)) no_members)))

-- what a launch is, with these items
unfoldable pub launch_members : List Data → NamedData → Members
launch_members items l =
    member (codes "algorithm") (string (algo_word l.launch.config.algo)) (member (codes "block_level") (count l.launch.config.block_level)
    (member (codes "items") (array (items_of items)) (member (codes "name") (string l.name)
    (member (codes "parameters") (parameters_json l.launch.config)
    (member (codes "ram") (array (items_of (map stretch_json (map region_stretch l.launch.ram)))) (member (codes "recs") (recs_json l.launch)
    (member (codes "rpv") (string (encode_lower l.launch.config.rpv)) (member (codes "s2sz") (count l.launch.config.s2sz) no_members))))))))

-- the items of a launch: at their places where it can be laid out, and else as the manifest states them. Each has the digest of its file
abbrev pub items_at : List (List ℕ) → List (List ℕ) → NamedData → Option PlacedData → List Data
items_at paths files l (Some p) = items_json (Some (map sha256 files)) (item_name l) paths l.launch.items (rows_of l.launch files p)
items_at paths files l None = stated_items_json (Some (map sha256 files)) (item_name l) paths 0 l.launch.items

-- the digest of the devicetree that a launch edits, as it is placed, or null where it edits none or cannot be laid out
abbrev pub edited_json : Option PlacedData → Data
edited_json place = text_json (option_map (λ bytes. encode_lower (sha256 bytes)) (option_and_then (λ p. p.edited) place))

-- ---- what came of it

-- the digest of the measurement, with two lower case hexadecimal digits for each byte and in base64 (RFC 4648, section 4), or the word of its
-- refusal
abbrev pub with_outcome : Algo → Option (Result (List ℕ) AuditFault) → Members → Members
with_outcome algo None ms = ms
with_outcome algo (Some (Ok rim)) ms =
    put (codes "rim_base64") (string (encode_of standard (digest_bytes algo rim))) (put (codes "rim") (string (encode_lower (digest_bytes algo rim))) ms)
with_outcome algo (Some (Err fault)) ms = put (codes "refused") (string (audit_kind_of fault)) ms

-- the line of the remark that says why it is refused, where there is one
abbrev pub with_refusal : Option Remark → Members → Members
with_refusal None ms = ms
with_refusal (Some remark) ms = put (codes "refusal") (remark_json remark) ms

-- a launch with what came of it
unfoldable pub launch_json : List (List ℕ) → List (List ℕ) → Option (Result (List ℕ) AuditFault) → Option Remark → NamedData → Data
launch_json paths files outcome remark l =
    object (with_refusal remark (with_outcome l.launch.config.algo outcome (put (codes "edited_sha256") (edited_json (result_ok (places l.launch files)))
    (launch_members (items_at paths files l (result_ok (places l.launch files))) l))))

-- the news of the launches of a release: what came of each, by its number, and the remark that says why it is refused
pub record News : Type 0 where
  pub outcomes : List (Result (List ℕ) AuditFault)
  pub remarks : List (Option Remark)

-- the remark on the launch of a number, if there is one
abbrev pub remark_at : List (Option Remark) → ℕ → Option Remark
remark_at remarks n = option_and_then (λ remark. remark) (slice_get remarks n)

-- launches with what came of them, of which the first has this number
abbrev pub launches_json : List (List ℕ) → List (List ℕ) → News → ℕ → List NamedData → List Data
launches_json paths files news n [] = []
launches_json paths files news n (l ∷ ls) =
    launch_json paths files (slice_get news.outcomes n) (remark_at news.remarks n) l ∷ launches_json paths files news (n + 1) ls

-- ---- the report

-- a report of this manifest, and of these files and launches, with this many different measured pages, by this program. Reports of several
-- manifests can be joined
unfoldable pub report_data : List ℕ → Data → List Data → List Data → ℕ → Data
report_data program manifest files launches pages =
    object (member (codes "files") (array (items_of files)) (member (codes "launches") (array (items_of launches))
    (member (codes "manifests") (array (items_of (manifest ∷ []))) (member (codes "pages") (count pages)
    (member (codes "program") (string program) (member (codes "version") (count 4) no_members))))))

-- what a report is made of: the program, the manifest's path and bytes, the release's files and launches, and the news of these
pub record Reported : Type 0 where
  pub program : List ℕ
  pub path : List ℕ
  pub bytes : List ℕ
  pub paths : List (List ℕ)
  pub files : List (List ℕ)
  pub launches : List NamedData
  pub news : News
  pub pages : ℕ

abbrev pub reported_data : Reported → Data
reported_data r =
    report_data r.program (file_json r.path r.bytes) (files_json r.paths r.files) (launches_json r.paths r.files r.news 0 r.launches) r.pages

-- its text: no spaces, and a line feed at its end
abbrev pub report_text : Reported → List ℕ
report_text r = compact_text (reported_data r) ++ codes "\n"
