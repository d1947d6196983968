use Rattle.std.proofs.Common.{◌≡◌, List, length, true, false, map, Err, refl, ◌∙◌, sym, ap, inl, inr, string_bytes}
use Rattle.std.specs.List.{list_any}
use Rattle.std.proofs.lemmas.List.{length-map}
use Rattle.std.proofs.lemmas.Result.{err_from_is_err_and}
use Rattle.toml.specs.Data.{Data}
use Rattle.toml.specs.View.{table_view}
use Rattle.rim_manifest.specs.Launches.{launches_from}
use Rattle.rim_rules.specs.Versions.{version_at}
use Rattle.rim_rules.specs.declared.version.FormatVersion.{FormatVersion}
use Rattle.rim_manifest.specs.Manifest.{all_made, files_at, launches_at, path_of}
use Rattle.rim_manifest.specs.StepTexts.{has_bad_steps, is_miscounted, is_misnamed}
use Rattle.rim_manifest.proofs.ReadStepByStep.{counted, named, no_name_fault, one_miscounted, refused_steps, refused_twice, refused_without, twice, without}
use Rattle.rim_manifest.proofs.MadeWithoutFaults.{all_read, all_refused}
use Rattle.rim_manifest.proofs.LaunchesNumbered.{are_numbered}
use Rattle.rim_rules.proofs.ListsOfValues.{map_of_views}
use Rattle.rim_manifest.proofs.manifest.read_release.Goals as goal

same : {v v' : FormatVersion} {files files' launches launches' : List Data} → v ≡ v' → files ≡ files' → launches ≡ launches'
    → all_made (launches_from v files 0 launches) ≡ all_made (launches_from v' files' 0 launches')
same v files launches = λ i. all_made (launches_from (v i) (files i) 0 (launches i))

pub returns-then-has_two_names : goal.returns-then-has_two_names
returns-then-has_two_names c =
    let ms = table_view c.args.table.now in
    inr (refused_twice ms (sym (twice ms _ _ _ c.entries-files.ensures c.entries-launches.ensures c.has_two_names.ensures) ∙ c.if-has_two_names.true))

pub returns-then-has_no_file : goal.returns-then-has_no_file
returns-then-has_no_file c =
    let ms = table_view c.args.table.now in
    inr (refused_without ms (sym (twice ms _ _ _ c.entries-files.ensures c.entries-launches.ensures c.has_two_names.ensures) ∙ c.if-has_two_names.false)
    (sym (without ms _ _ _ c.entries-files.ensures c.entries-launches.ensures c.has_no_file.ensures) ∙ c.if-has_no_file.true))

one_misnamed : (ds : List Data) → list_any is_miscounted ds ≡ false → list_any is_misnamed ds ≡ true → has_bad_steps ds ≡ true
one_misnamed ds none e = rw (none, e) refl

none_bad : (ds : List Data) → list_any is_miscounted ds ≡ false → list_any is_misnamed ds ≡ false → has_bad_steps ds ≡ false
none_bad ds none e = rw (none, e) refl

pub returns-then-any_miscounted : goal.returns-then-any_miscounted
returns-then-any_miscounted c =
    let ms = table_view c.args.table.now in
    inr (refused_steps ms (sym (twice ms _ _ _ c.entries-files.ensures c.entries-launches.ensures c.has_two_names.ensures) ∙ c.if-has_two_names.false)
    (sym (without ms _ _ _ c.entries-files.ensures c.entries-launches.ensures c.has_no_file.ensures) ∙ c.if-has_no_file.false)
    (one_miscounted (launches_at ms) (sym (counted ms _ _ c.entries-launches.ensures c.any_miscounted.ensures) ∙ c.if-any_miscounted.true)))

pub returns-in_err-launches : goal.returns-in_err-launches
returns-in_err-launches c =
    let ms = table_view c.args.table.now in
    let single = sym (twice ms _ _ _ c.entries-files.ensures c.entries-launches.ensures c.has_two_names.ensures) ∙ c.if-has_two_names.false in
    let found = sym (without ms _ _ _ c.entries-files.ensures c.entries-launches.ensures c.has_no_file.ensures) ∙ c.if-has_no_file.false in
    let whole = sym (counted ms _ _ c.entries-launches.ensures c.any_miscounted.ensures) ∙ c.if-any_miscounted.false in
    let p = err_from_is_err_and c.from_residual-in_err-launches.result c.from_residual-in_err-launches.ensures.1 in
    rw (p.1, p.2) (elim c.in_err-launches.ensures [
      | inl memory ↦ inl memory
      | inr refused ↦
          let why =
          all_refused ms _ c.requires single (same (sym c.version.ensures) (sym c.entries-files.ensures) (sym c.entries-launches.ensures) ∙ refused) in
          inr (refused_steps ms single found (one_misnamed (launches_at ms) whole why.1) ∙ ap Err (sym why.0))
    ])

pub invariant_of-result : goal.invariant_of-result
invariant_of-result c =
    let ms = table_view c.args.table.now in
    let found = sym (without ms _ _ _ c.entries-files.ensures c.entries-launches.ensures c.has_no_file.ensures) ∙ c.if-has_no_file.false in
    let read = all_read ms _ (same (sym c.version.ensures) (sym c.entries-files.ensures) (sym c.entries-launches.ensures) ∙ c.in_ok-launches.ensures) in
    let paths = c.in_ok-paths.ensures ∙ map_of_views path_of c.entries-files.result.now _ c.entries-files.ensures in
    are_numbered (version_at ms) (files_at ms) (launches_at ms)
    (record { paths = map string_bytes c.in_ok-paths.paths.items; launches = c.in_ok-launches.launches.items }) found
    (ap length paths ∙ length-map (files_at ms) path_of) read.0

pub returns : goal.returns
returns c =
    let ms = table_view c.args.table.now in
    let single = sym (twice ms _ _ _ c.entries-files.ensures c.entries-launches.ensures c.has_two_names.ensures) ∙ c.if-has_two_names.false in
    let found = sym (without ms _ _ _ c.entries-files.ensures c.entries-launches.ensures c.has_no_file.ensures) ∙ c.if-has_no_file.false in
    let whole = sym (counted ms _ _ c.entries-launches.ensures c.any_miscounted.ensures) ∙ c.if-any_miscounted.false in
    let read = all_read ms _ (same (sym c.version.ensures) (sym c.entries-files.ensures) (sym c.entries-launches.ensures) ∙ c.in_ok-launches.ensures) in
    let paths = c.in_ok-paths.ensures ∙ map_of_views path_of c.entries-files.result.now _ c.entries-files.ensures in
    named ms _ (no_name_fault ms single found (none_bad (launches_at ms) whole read.1)) paths read.0
