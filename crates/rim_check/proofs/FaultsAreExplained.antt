-- The faults of a manifest, explained.
use Rattle.std.proofs.Common.{◌≡◌, ◌∙◌, ◌+◌, ◌≤◌, ℕ, List, [], ◌∷◌, ◌++◌, Option, Some, None, Err, ap, arith, length, map, refl, subst, sym}
use Rattle.std.proofs.lemmas.List.{append-nil, length-map}
use Rattle.toml.specs.Data.{Members}
use Rattle.rim_manifest.specs.declared.fault.ManifestFault.{ManifestFault}
use Rattle.rim_manifest.specs.declared.fault.ManifestFault.TheVariants.{Syntax}
use Rattle.rim_manifest.specs.declared.finding.Finding.{Finding}
use Rattle.rim_manifest.specs.Faults.{IsSubsequence, lower, lowest}
use Rattle.rim_manifest.specs.Found.{AreFound}
use Rattle.rim_manifest.specs.Manifest.{Answer, answer_of, document_of, manifest_of, read_of}
use Rattle.rim_manifest.specs.inside.Kept.{faults_in}
use Rattle.rim_check.specs.Explained.{Explains, IsCheckOf, Located, fault_said, others_said}
use Rattle.rim_check.specs.inside.Listed.{ListsFaults, ShowsFindings, ShowsList, faults_at, no_document}
use Rattle.shown_text.specs.declared.remark.Remark.{Remark}
use Rattle.shown_text.specs.Lines.{AddsAll, Saying, SayInTurn}
use Rattle.rim_check.specs.declared.manifest.ManifestCheck.{ManifestCheck}
use Rattle.rim_check.specs.declared.manifest.ManifestCheck.TheVariants.{Faulty, Readable}
use Rattle.rim_spot.specs.declared.spot.Spot.{Spot}

-- a text that is no document is explained by one remark
pub explains-syntax : (path bytes : List ℕ) (spot : Option Spot) (remarks : List Remark) → document_of bytes ≡ None
    → SayInTurn (fault_said path None (no_document spot) ∷ []) remarks → Explains path bytes Syntax remarks
unfolding lower
explains-syntax path bytes spot remarks none says =
    record {
      faults = no_document spot ∷ [];
      lowest = refl;
      more = 0;
      shown = rw none (refl, refl);
      lines = subst (λ (document : Option Members). SayInTurn (fault_said path document (no_document spot) ∷ []) remarks) (sym none) says;
    }

counted-same : (found : List Finding) (shown : List Located) → faults_at shown ≡ faults_in found → length (faults_at shown) ≡ length found
counted-same found shown are = ap (λ (fs : List ManifestFault). length fs) are ∙ length-map found (λ (f : Finding). f.fault)

-- faults that were found are listed by a remark for each fault of an excerpt with the same lowest, and how many others there are
pub lists-more : (path : List ℕ) (ms : Members) (listed shown : List Finding) (others more : ℕ) (old new : List Remark)
    → IsSubsequence (faults_in shown) (faults_in listed) → lowest (faults_in shown) ≡ lowest (faults_in listed) → others ≤ more
    → length shown + more ≤ length listed + others
    → ShowsFindings path ms shown old → AddsAll (others_said more) old new → ShowsList path ms (faults_in listed) others new
lists-more path ms listed shown others more old new some same beside within shows adds =
    let count : length (faults_at shows.faults) ≡ length shown = counted-same shown shows.faults shows.are in
    let all : length (faults_in listed) ≡ length listed = length-map listed (λ (f : Finding). f.fault) in
    record {
      faults = shows.faults;
      some = subst (λ (fs : List ManifestFault). IsSubsequence fs (faults_in listed)) (sym shows.are) some;
      least = ap lowest shows.are ∙ same;
      more = more;
      beside = beside;
      within = omega (arith, within, count, all);
      lines = adds (map (fault_said path (Some ms)) shows.faults) shows.lines;
    }

pub lists-all : (path : List ℕ) (ms : Members) (listed shown : List Finding) (others more : ℕ) (remarks : List Remark)
    → IsSubsequence (faults_in shown) (faults_in listed) → lowest (faults_in shown) ≡ lowest (faults_in listed) → others ≤ more
    → length shown + more ≤ length listed + others → more ≤ 0
    → ShowsFindings path ms shown remarks → ShowsList path ms (faults_in listed) others remarks
lists-all path ms listed shown others more remarks some same beside within none shows =
    lists-more path ms listed shown others 0 remarks remarks some same (omega (arith, beside, none)) (omega (arith, within)) shows
    (λ (said : List Saying) (says : SayInTurn said remarks). subst (λ (ss : List Saying). SayInTurn ss remarks) (sym (append-nil said)) says)

-- a document is explained by the list of what was found in it
explains-list : (path bytes : List ℕ) (ms : Members) (listed : List ManifestFault) (others : ℕ) (remarks : List Remark) (found : AreFound ms listed others)
    → document_of bytes ≡ Some ms → ShowsList path ms listed others remarks → Explains path bytes found.fault remarks
explains-list path bytes ms listed others remarks found document shows = record {
  faults = shows.faults;
  lowest = shows.least ∙ found.lowest;
  more = shows.more;
  shown = rw document (listed, others, found, shows.some, shows.beside, shows.within);
  lines = subst (λ (d : Option Members). SayInTurn (map (fault_said path d) shows.faults ++ others_said shows.more) remarks) (sym document) shows.lines;
}

-- a check of what a document reads as is one of the manifest
pub of-document : (path bytes : List ℕ) (ms : Members) (a : Answer) (m : ManifestCheck)
    → document_of bytes ≡ Some ms → read_of ms ≡ a → IsCheckOf path bytes a m → IsCheckOf path bytes (manifest_of bytes) m
of-document path bytes ms a m document read is = subst (λ (x : Answer). IsCheckOf path bytes x m) (sym (ap answer_of document ∙ read)) is

pub of-none : (path bytes : List ℕ) (m : ManifestCheck) → document_of bytes ≡ None → IsCheckOf path bytes (Err Syntax) m
    → IsCheckOf path bytes (manifest_of bytes) m
of-none path bytes m document is = subst (λ (x : Answer). IsCheckOf path bytes x m) (sym (ap answer_of document)) is

-- a check that lists what was found in a document is one of the manifest
pub of-list : (path bytes : List ℕ) (ms : Members) (listed : List ManifestFault) (others : ℕ) (m : ManifestCheck) (found : AreFound ms listed others)
    → document_of bytes ≡ Some ms → ListsFaults path ms listed others m → IsCheckOf path bytes (manifest_of bytes) m
of-list path bytes ms listed others (Faulty remarks spot) found document shows =
    of-document path bytes ms (Err found.fault) (Faulty remarks spot) document found.refused
    (explains-list path bytes ms listed others remarks.items found document shows)
of-list path bytes ms listed others (Readable read) found document shows = absurd shows
