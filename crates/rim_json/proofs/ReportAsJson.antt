-- The JSON of a report is made of one file and one launch after another, and has no float.
use Rattle.std.proofs.Common.{◌≡◌, ◌∙◌, ◌+◌, ◌<◌, ◌≤◌, ℕ, zero, suc, false, List, [], ◌∷◌, ◌++◌, Vec, Global, codes, length, map}
use Rattle.std.proofs.Common.{get_or, take, refl, sym, ap, ap₂, arith}
use Rattle.std.specs.Prelude.{Option, Result, Ok, Err, None, Some, option_map}
use Rattle.std.specs.List.{slice_get}
use Rattle.std.specs.Result.{result_ok}
use Rattle.std.proofs.lemmas.List.{length-map, length-take-le, take_all, take_more}
use Rattle.std.proofs.lemmas.Option.{same_Some, slice_get-map}
use Rattle.base64.specs.Engines.{standard}
use Rattle.base64.specs.GeneralPurpose.{encode_of}
use Rattle.hex.specs.Hex.{encode_lower}
use Rattle.serde_json.specs.Data.{Data, Members, boolean, no_members, put, string}
use Rattle.serde_json.specs.View.{items_of}
use Rattle.serde_json.specs.Written.{has_float, items_have_float, members_have_float}
use Rattle.sha2.specs.Sha256.{sha256}
use Rattle.rim_desc.specs.declared.measurement.Algo.{Algo}
use Rattle.rim_desc.specs.declared.measurement.Measurement.{Measurement}
use Rattle.rim_launch.specs.LaunchData.{LaunchData}
use Rattle.rim_launch.specs.declared.config.Config.{Config}
use Rattle.ipa_layout.specs.Files.{bytes_of_files}
use Rattle.ipa_layout.specs.Layout.{PlacedData, places}
use Rattle.rim_manifest.specs.Launches.{NamedData, item_name}
use Rattle.rmi_line.specs.Ends.{digest_bytes}
use Rattle.rim_accepted.specs.AuditFaults.{audit_kind_of}
use Rattle.rim_accepted.specs.Lines.{seen}
use Rattle.rim_accepted.specs.declared.audit_fault.AuditFault.{AuditFault}
use Rattle.shown_text.specs.RemarkJson.{remark_json}
use Rattle.shown_text.specs.declared.remark.Remark.{Remark}
use Rattle.map_rows.specs.Rows.{rows_of}
use Rattle.map_rows.specs.Stretches.{region_stretch}
use Rattle.launch_json.specs.Items.{count}
use Rattle.launch_json.proofs.ItemsAsJson.{items-float, neither, put-float, rule-float, stated-float, stretches-float, text-float}
use Rattle.rim_json.specs.ReportJson.{News, Reported, edited_json, file_json, files_json, items_at, launch_json, launch_members, launches_json, remark_at}
use Rattle.rim_json.specs.ReportJson.{number_counts, parameters_json, recs_json, report_data, reported_data, with_counts, with_outcome, with_refusal}

-- ---- no part has a float

files-float : (paths files : List (List ℕ)) → items_have_float (items_of (files_json paths files)) ≡ false
unfolding file_json
files-float [] files = refl
files-float (path ∷ paths) [] = refl
files-float (path ∷ paths) (bytes ∷ files) = files-float paths files

file-float : (path bytes : List ℕ) → has_float (file_json path bytes) ≡ false
unfolding file_json
file-float path bytes = refl

counts-float : (fields : List (List ℕ × ℕ)) (ms : Members) → members_have_float ms ≡ false → members_have_float (with_counts ms fields) ≡ false
counts-float [] ms none = none
counts-float (field ∷ fields) ms none = counts-float fields _ (put-float field.0 (count field.1) ms refl none)

parameters-float : (c : Config) → has_float (parameters_json c) ≡ false
unfolding parameters_json
parameters-float c =
    let numbers : Members = with_counts no_members (number_counts c.numbers) in
    put-float (codes "sve") (boolean c.sve) (put (codes "pmu") (boolean c.pmu) numbers) refl
    (put-float (codes "pmu") (boolean c.pmu) numbers refl (counts-float (number_counts c.numbers) no_members refl))

recs-float : (l : LaunchData) → has_float (recs_json l) ≡ false
unfolding recs_json
recs-float l = rw (rule-float l.config.rec_rule) refl

at-float : (paths files : List (List ℕ)) (l : NamedData) (place : Option PlacedData) → items_have_float (items_of (items_at paths files l place)) ≡ false
at-float paths files l (Some p) = items-float (Some (map sha256 files)) (item_name l) paths l.launch.items (rows_of l.launch files p)
at-float paths files l None = stated-float (Some (map sha256 files)) (item_name l) paths 0 l.launch.items

launch-float : (items : List Data) (l : NamedData) → items_have_float (items_of items) ≡ false → members_have_float (launch_members items l) ≡ false
unfolding launch_members
launch-float items l none =
    rw (none, parameters-float l.launch.config, stretches-float (map region_stretch l.launch.ram), recs-float l.launch) refl

outcome-float : (algo : Algo) (outcome : Option (Result (List ℕ) AuditFault)) (ms : Members) → members_have_float ms ≡ false
    → members_have_float (with_outcome algo outcome ms) ≡ false
outcome-float algo None ms none = none
outcome-float algo (Some (Ok rim)) ms none =
    let digits : Data = string (encode_lower (digest_bytes algo rim)) in
    put-float (codes "rim_base64") (string (encode_of standard (digest_bytes algo rim))) (put (codes "rim") digits ms) refl
    (put-float (codes "rim") digits ms refl none)
outcome-float algo (Some (Err fault)) ms none = put-float (codes "refused") (string (audit_kind_of fault)) ms refl none

refusal-float : (remark : Option Remark) (ms : Members) → members_have_float ms ≡ false → members_have_float (with_refusal remark ms) ≡ false
refusal-float None ms none = none
refusal-float (Some remark) ms none = put-float (codes "refusal") (remark_json remark) ms refl none

launches-float : (paths files : List (List ℕ)) (news : News) (n : ℕ) (ls : List NamedData)
    → items_have_float (items_of (launches_json paths files news n ls)) ≡ false
unfolding launch_json
launches-float paths files news n [] = refl
launches-float paths files news n (l ∷ ls) =
    let place : Option PlacedData = result_ok (places l.launch files) in
    neither _ _ (refusal-float (remark_at news.remarks n) _ (outcome-float l.launch.config.algo (slice_get news.outcomes n) _
    (put-float (codes "edited_sha256") (edited_json place) (launch_members (items_at paths files l place) l) (text-float _)
    (launch-float (items_at paths files l place) l (at-float paths files l place))))) (launches-float paths files news (n + 1) ls)

-- and no report
pub no-float : (r : Reported) → has_float (reported_data r) ≡ false
unfolding report_data
no-float r = rw (files-float r.paths r.files, launches-float r.paths r.files r.news 0 r.launches, file-float r.path r.bytes) refl

-- ---- one after another

-- what came of a launch, by its number
pub get_seen : (outcomes : List (Result Measurement AuditFault)) (i : ℕ) → slice_get (map seen outcomes) i ≡ option_map seen (slice_get outcomes i)
get_seen outcomes i = slice_get-map seen outcomes i

-- a launch more
launches-more : (paths files : List (List ℕ)) (news : News) (n : ℕ) (ls : List NamedData) (l : NamedData)
    → launches_json paths files news n (ls ++ l ∷ [])
    ≡ launches_json paths files news n ls
    ++ launch_json paths files (slice_get news.outcomes (n + length ls)) (remark_at news.remarks (n + length ls)) l ∷ []
launches-more paths files news n [] l =
    ap (λ (i : ℕ). launch_json paths files (slice_get news.outcomes i) (remark_at news.remarks i) l ∷ []) (omega arith)
launches-more paths files news n (first ∷ ls) l =
    ap (λ (ds : List Data). launch_json paths files (slice_get news.outcomes n) (remark_at news.remarks n) first ∷ ds)
    (launches-more paths files news (n + 1) ls l
    ∙ ap (λ (i : ℕ). launches_json paths files news (n + 1) ls ++ launch_json paths files (slice_get news.outcomes i) (remark_at news.remarks i) l ∷ [])
    (omega arith))

-- the next one is made
pub launches-next : (paths files : List (List ℕ)) (news : News) (ls : List NamedData) (i : ℕ) (l : NamedData) (made : List Data) (one : Data)
    → i < length ls → l ≡ get_or ls i l → made ≡ launches_json paths files news 0 (take i ls)
    → one ≡ launch_json paths files (slice_get news.outcomes i) (remark_at news.remarks i) l
    → made ++ one ∷ [] ≡ launches_json paths files news 0 (take (i + 1) ls)
launches-next paths files news ls i l made one low at so_far is =
    ap (λ (ds : List Data). ds ++ one ∷ []) so_far
    ∙ ap (λ (d : Data). launches_json paths files news 0 (take i ls) ++ d ∷ [])
    (is ∙ ap (λ (n : ℕ). launch_json paths files (slice_get news.outcomes n) (remark_at news.remarks n) l) place)
    ∙ sym (launches-more paths files news 0 (take i ls) l)
    ∙ sym (ap (λ (xs : List NamedData). launches_json paths files news 0 xs) (take_more ls i l low
    ∙ ap (λ (x : NamedData). take i ls ++ x ∷ []) (sym at)))
  where
    place : i ≡ 0 + length (take i ls)
    place = omega (arith, length-take-le i ls (omega (arith, low)))

-- a file more
file-added : (paths : List (List ℕ)) (files : List (Vec ℕ Global)) (i : ℕ) (path : List ℕ) (d : Vec ℕ Global)
    → slice_get paths i ≡ Some path → i < length files
    → files_json (take (suc i) paths) (take (suc i) (bytes_of_files files))
    ≡ files_json (take i paths) (take i (bytes_of_files files)) ++ file_json path (get_or files i d).items ∷ []
file-added [] files i path d here inside = absurd (cc)
file-added (first ∷ paths) [] i path d here inside = absurd (omega (arith, inside))
file-added (first ∷ paths) (file ∷ files) zero path d here inside = ap (λ (p : List ℕ). file_json p file.items ∷ []) (same_Some first path here)
file-added (first ∷ paths) (file ∷ files) (suc i) path d here inside =
    ap (λ (xs : List Data). file_json first file.items ∷ xs) (file-added paths files i path d here (omega (arith, inside)))

pub one-file-more : (paths : List (List ℕ)) (files : List (Vec ℕ Global)) (i : ℕ) (path : List ℕ) (d : Vec ℕ Global)
    → slice_get paths i ≡ Some path → i < length files
    → files_json (take (i + 1) paths) (take (i + 1) (bytes_of_files files))
    ≡ files_json (take i paths) (take i (bytes_of_files files)) ++ file_json path (get_or files i d).items ∷ []
one-file-more paths files i path d here inside =
    let next : i + 1 ≡ suc i = omega arith in
    ap (λ (n : ℕ). files_json (take n paths) (take n (bytes_of_files files))) next ∙ file-added paths files i path d here inside

-- after the last file these are all
pub all-files : (paths : List (List ℕ)) (files : List (Vec ℕ Global)) (n : ℕ) → length files ≤ n → length files ≡ length paths
    → files_json (take n paths) (take n (bytes_of_files files)) ≡ files_json paths (bytes_of_files files)
all-files paths files n over same =
    let few : length (bytes_of_files files) ≤ n = omega (arith, over, length-map files (λ f. f.items)) in
    ap₂ files_json (take_all n paths (omega (arith, over, same))) (take_all n (bytes_of_files files) few)
