-- What a manifest is read as, step by step.
use Rattle.std.proofs.Common.{◌≡◌, ℕ, Bool, cond, true, false, List, [], ◌++◌, Option, Some, None, Ok, Err, refl, ap, sym, ◌∙◌}
use Rattle.std.proofs.lemmas.Str.{IsUtf8-from_is_utf8, is_utf8-from_IsUtf8}
use Rattle.std.specs.Str.{IsUtf8, is_utf8}
use Rattle.std.specs.Prelude.{◌||◌, map}
use Rattle.std.specs.List.{list_any}
use Rattle.toml.specs.Data.{Data, Members}
use Rattle.toml.specs.View.{view}
use Rattle.toml.specs.declared.value.Value.{Value}
use Rattle.rim_rules.specs.Names.{lacks_file, repeats, share_names}
use Rattle.rim_rules.proofs.ListsOfValues.{list_any_map}
use Rattle.toml.specs.Parse.{parse_document}
use Rattle.rim_manifest.specs.declared.fault.ManifestFault.{ManifestFault}
use Rattle.rim_manifest.specs.declared.fault.ManifestFault.TheVariants.{BadStep, NoSuchFile, Syntax, TwoNames}
use Rattle.rim_manifest.specs.Faults.{fault_if, lower, lowest}
use Rattle.rim_manifest.specs.Launches.{ReleaseData}
use Rattle.rim_manifest.specs.StepTexts.{has_bad_steps, is_miscounted, is_misnamed}
use Rattle.rim_manifest.specs.Manifest.{document_of, fault_or_named, fault_or_release, files_at, has_no_file, has_two_names, launches_at, launches_of}
use Rattle.rim_manifest.specs.Manifest.{manifest_faults, manifest_of, name_faults, named_of, paths_of}

pub document_read : (b : List ℕ) (ms : Members) → IsUtf8 b → parse_document b ≡ Some ms → document_of b ≡ Some ms
unfolding document_of
document_read b ms u e = rw (is_utf8-from_IsUtf8 b u, e)

pub document_refused : (b : List ℕ) → (IsUtf8 b → parse_document b ≡ None) → document_of b ≡ None
unfolding document_of
document_refused b h = elim (is_utf8 b) as (λ t. is_utf8 b ≡ t → cond t (parse_document b) None ≡ None) [
  | true ↦ λ e. h (IsUtf8-from_is_utf8 b e)
  | false ↦ λ e. refl
] refl

pub refused : (b : List ℕ) → document_of b ≡ None → Err Syntax ≡ manifest_of b
refused b d = rw d

pub answered : (b : List ℕ) (ms : Members) (o : Option ManifestFault) → document_of b ≡ Some ms → o ≡ lowest (manifest_faults ms)
    → fault_or_named ms o ≡ manifest_of b
answered b ms o d e = rw (d, ← e)

-- ---- the faults of names and of steps, one after another

first_of : (a b c : Bool) → List ManifestFault
first_of a b c = fault_if a TwoNames ++ (fault_if b NoSuchFile ++ fault_if c BadStep)

-- the first of the three that holds
lowest_two : (b c : Bool) → lowest (first_of true b c) ≡ Some TwoNames
unfolding lower first_of
lowest_two true true = refl
lowest_two true false = refl
lowest_two false true = refl
lowest_two false false = refl

lowest_file : (c : Bool) → lowest (first_of false true c) ≡ Some NoSuchFile
unfolding lower first_of
lowest_file true = refl
lowest_file false = refl

pub refused_twice : (ms : Members) → has_two_names ms ≡ true → named_of ms ≡ Err TwoNames
unfolding name_faults first_of
refused_twice ms two =
    ap (fault_or_release ms) (ap (λ a. lowest (first_of a (has_no_file ms) (has_bad_steps (launches_at ms)))) two
    ∙ lowest_two (has_no_file ms) (has_bad_steps (launches_at ms)))

pub refused_without : (ms : Members) → has_two_names ms ≡ false → has_no_file ms ≡ true → named_of ms ≡ Err NoSuchFile
unfolding name_faults first_of
refused_without ms one no_file =
    ap (fault_or_release ms) (ap (λ a. lowest (first_of a (has_no_file ms) (has_bad_steps (launches_at ms)))) one
    ∙ ap (λ b. lowest (first_of false b (has_bad_steps (launches_at ms)))) no_file ∙ lowest_file (has_bad_steps (launches_at ms)))

pub refused_steps : (ms : Members) → has_two_names ms ≡ false → has_no_file ms ≡ false → has_bad_steps (launches_at ms) ≡ true → named_of ms ≡ Err BadStep
unfolding name_faults first_of lower
refused_steps ms one each bad =
    ap (fault_or_release ms) (ap (λ a. lowest (first_of a (has_no_file ms) (has_bad_steps (launches_at ms)))) one
    ∙ ap (λ b. lowest (first_of false b (has_bad_steps (launches_at ms)))) each ∙ ap (λ c. lowest (first_of false false c)) bad)

pub no_name_fault : (ms : Members) → has_two_names ms ≡ false → has_no_file ms ≡ false → has_bad_steps (launches_at ms) ≡ false → name_faults ms ≡ []
unfolding name_faults
no_name_fault ms one each good = rw (one, each, good) refl

pub named : (ms : Members) (r : ReleaseData) → name_faults ms ≡ [] → r.paths ≡ paths_of ms → r.launches ≡ launches_of ms → named_of ms ≡ Ok r
named ms r none paths launches = rw none (ap Ok (sym (λ i. record { paths = paths i; launches = launches i })))

-- ---- the tests of the code, which go over the values of a document

pub twice : (ms : Members) (files launches : List Value) (b : Bool) → map view files ≡ files_at ms → map view launches ≡ launches_at ms
    → b ≡ (share_names (map view files) || share_names (map view launches) || list_any (λ l. repeats (view l)) launches) → b ≡ has_two_names ms
twice ms files launches b files_are launches_are h = rw (← files_are, ← launches_are, list_any_map repeats view launches) h

pub without : (ms : Members) (files launches : List Value) (b : Bool) → map view files ≡ files_at ms → map view launches ≡ launches_at ms
    → b ≡ list_any (λ l. lacks_file (map view files) (view l)) launches → b ≡ has_no_file ms
without ms files launches b files_are launches_are h = rw (← files_are, ← launches_are, list_any_map (lacks_file (map view files)) view launches) h

-- what a launch's steps say of all of them
pub counted : (ms : Members) (launches : List Value) (b : Bool) → map view launches ≡ launches_at ms → b ≡ list_any (λ l. is_miscounted (view l)) launches
    → b ≡ list_any is_miscounted (launches_at ms)
counted ms launches b launches_are h = rw (← launches_are, list_any_map is_miscounted view launches) h

pub one_miscounted : (ds : List Data) → list_any is_miscounted ds ≡ true → has_bad_steps ds ≡ true
one_miscounted ds e = rw e refl

pub some_misnamed : (ds : List Data) → list_any is_misnamed ds ≡ true → has_bad_steps ds ≡ true
some_misnamed ds e = by_count (list_any is_miscounted ds) refl
  where
    by_count : (b : Bool) → list_any is_miscounted ds ≡ b → has_bad_steps ds ≡ true
    by_count true some = one_miscounted ds some
    by_count false none = rw (none, e) refl
