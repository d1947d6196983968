-- A run of `rim measure manifest.toml` over a manifest in memory makes the report of that manifest.
use Rattle.std.proofs.Common.{◌≡◌, ℕ, zero, suc, ◌≤◌, Bool, true, List, [], ◌∷◌, Some, None, refl, ap, ◌∙◌, subst, sym, arith}
use Rattle.std.specs.Prelude.{Result, Ok, Err, IsOkAnd, codes, if◌then◌else◌}
use Rattle.std.specs.Option.{option_map_or}
use Rattle.std.specs.Str.{bytes_eq}
use Rattle.std.proofs.lemmas.Option.{same_Some}
use Rattle.std.proofs.lemmas.Slice.Eq.{bytes_eq-Decides}
use Rattle.clap.proofs.OnLiterals.{clap_on_literals}
use Rattle.clap.specs.Words.{Row, Text, subcommand_of, takes}
use Rattle.rim_manifest.specs.Launches.{ReleaseData}
use Rattle.rim_manifest.specs.Manifest.{manifest_of}
use Rattle.rim_manifest.specs.declared.fault.ManifestFault.{ManifestFault}
use Rattle.rim_accepted.specs.Lines.{has_refused}
use Rattle.rim_report.specs.Report.{measured_of}
use Rattle.rim_words.specs.Command.{ReadsAsk, ReadsRequest, rim}
use Rattle.rim_cli.specs.Done.{AsksFor, IsAnswer, IsMade, IsReport, output_of}
use Rattle.rim_words.specs.Examples.{plain}
use Rattle.rim_files.specs.Files.{AreRead, IfFile, Known}
use Rattle.rim_words.specs.declared.words.Format.{Format}
use Rattle.rim_words.specs.declared.words.Format.TheVariants as format
use Rattle.rim_words.specs.declared.words.Ask.{Ask}
use Rattle.rim_words.specs.declared.words.Request.{Request}
use Rattle.rim_words.proofs.RequestsOfSubcommands.{measure_asks}

-- where the manifest is
abbrev pub path : List ℕ
path = codes "manifest.toml"

-- what is known where there is one manifest
abbrev pub in_memory : List ℕ → List ℕ → Known
in_memory manifest p = Some (if bytes_eq p path then Some manifest else None)

pub plain_taken : takes rim plain ≡ true
unfolding clap_on_literals
plain_taken = refl

-- what they ask for, if it was made, is the report of the manifest
pub made_report : (manifest text : List ℕ) (status : ℕ) → AsksFor plain (λ request. IsMade request (in_memory manifest) text status)
    → IsOkAnd (manifest_of manifest) (λ r. IsReport format.Text path manifest (in_memory manifest) r text status)
unfolding clap_on_literals
made_report manifest text status made =
    let here : in_memory manifest made.request.path.now ≡ Some (Some manifest)
    = ap (in_memory manifest) (sym (same_Some _ _ made.asked.1)) ∙ ap (λ (b : Bool). Some (if b then Some manifest else None)) ((bytes_eq-Decides path path).1 refl) in
    let answer = subst (λ (known : Known). IfFile known (λ bytes. IsAnswer (in_memory manifest) made.request.ask made.request.path.now bytes text status)) here made.holds in
    let measure = measure_asks made.request.ask made.asked.0 in
    let rows : List Row = option_map_or (λ (p : Text × List Row). p.1) (subcommand_of rim plain) [] in
    let options = subst (λ (asked : Ask). ReadsAsk rows asked) measure.2 made.asked.2 in
    let report = subst (λ (asked : Ask). IsAnswer (in_memory manifest) asked made.request.path.now manifest text status) measure.2 answer in
    let own : IsOkAnd (manifest_of manifest) (λ r. IsReport format.Text made.request.path.now manifest (in_memory manifest) r text status) =
    subst (λ (f : Format). IsOkAnd (manifest_of manifest) (λ r. IsReport f made.request.path.now manifest (in_memory manifest) r text status)) options.1 report in
    subst (λ (p : List ℕ). IsOkAnd (manifest_of manifest) (λ r. IsReport format.Text p manifest (in_memory manifest) r text status)) (sym (same_Some _ _ made.asked.1)) own

-- and it goes to standard output
pub to_output : (request : Request) → ReadsRequest (subcommand_of rim plain) request → output_of request ≡ None
unfolding clap_on_literals
to_output request asked = sym asked.3

-- the report of a release without files
no_files : (held : List ℕ → Known) (files : List (List ℕ)) → AreRead held [] files → files ≡ []
no_files held [] read = refl
no_files held (f ∷ fs) read = absurd read

module _ (manifest : List ℕ) (r : ReleaseData) (reads : manifest_of manifest ≡ Ok r) (none : r.paths ≡ []) (text : List ℕ) (status : ℕ)
    (made : AsksFor plain (λ request. IsMade request (in_memory manifest) text status)) where
  own_report : IsReport format.Text path manifest (in_memory manifest) r text status
  own_report = subst (λ (m : Result ReleaseData ManifestFault). IsOkAnd m (λ r. IsReport format.Text path manifest (in_memory manifest) r text status)) reads (made_report manifest text status made)

  own_files : own_report.files ≡ []
  own_files = no_files (in_memory manifest) own_report.files (subst (λ (paths : List (List ℕ)). AreRead (in_memory manifest) paths own_report.files) none own_report.read)

  pub own_text : measured_of [] r.launches ≡ Ok text
  own_text = ap (λ (files : List (List ℕ)). measured_of files r.launches) (sym own_files) ∙ own_report.text

  pub own_status : status ≡ (if has_refused [] r.launches then 1 else 0)
  own_status = own_report.status ∙ ap (λ (files : List (List ℕ)). if has_refused files r.launches then 1 else 0) own_files

-- nothing is made of a manifest with a fault
pub none_made : (manifest : List ℕ) (f : ManifestFault) (text : List ℕ) (status : ℕ) → manifest_of manifest ≡ Err f → AsksFor plain (λ request. IsMade request (in_memory manifest) text status) → ⊥
none_made manifest f text status refuses made =
    subst (λ (m : Result ReleaseData ManifestFault). IsOkAnd m (λ r. IsReport format.Text path manifest (in_memory manifest) r text status)) refuses (made_report manifest text status made)

-- a status above 2, where it is neither below nor 2
pub ends_above : (n : ℕ) (Same : Type 0) → n ≤ 4 → (n ≤ 1 → ⊥) → (n ≡ 2 → ⊥) → (n ≡ 3 → Same) → (n ≡ 4 → Same) → (3 ≤ n) × Same
ends_above zero Same high low two three four = absurd (low (omega arith))
ends_above (suc zero) Same high low two three four = absurd (low (omega arith))
ends_above (suc (suc zero)) Same high low two three four = absurd (two refl)
ends_above (suc (suc (suc zero))) Same high low two three four = (omega arith, three refl)
ends_above (suc (suc (suc (suc zero)))) Same high low two three four = (omega arith, four refl)
ends_above (suc (suc (suc (suc (suc n))))) Same high low two three four = absurd (omega (arith, high))
