-- The remarks on faults, one after another.
use Rattle.std.proofs.Common.{◌≡◌, ◌∙◌, ◌+◌, ◌<◌, ◌≤◌, ℕ, List, [], ◌∷◌, ◌++◌, Option, Some, ap, arith, get_or, length, map, refl, subst, suc, sym, take}
use Rattle.std.proofs.Math.Seq.{take-suc}
use Rattle.std.proofs.lemmas.List.{map-append, take_all}
use Rattle.toml.specs.Data.{Members}
use Rattle.rim_manifest.specs.declared.fault.ManifestFault.{ManifestFault}
use Rattle.rim_manifest.specs.declared.finding.Finding.{Finding}
use Rattle.rim_manifest.specs.Faults.{IsSubsequence}
use Rattle.rim_manifest.specs.inside.Kept.{faults_in}
use Rattle.rim_manifest.proofs.FaultsInTurn.{subsequence_longer, subsequence_next}
use Rattle.rim_check.specs.Explained.{Located, fault_said}
use Rattle.rim_check.specs.inside.Listed.{ShowsFindings, faults_at, located}
use Rattle.shown_text.specs.declared.remark.Remark.{Remark}
use Rattle.shown_text.specs.Lines.{AddsLine, Saying, SayInTurn}
use Rattle.rim_spot.specs.declared.spot.Spot.{Spot}

faults-next : (found : List Finding) (f : Finding) → faults_in (found ++ f ∷ []) ≡ faults_in found ++ f.fault ∷ []
faults-next [] f = refl
faults-next (g ∷ found) f = ap (λ (fs : List ManifestFault). g.fault ∷ fs) (faults-next found f)

-- the faults of an excerpt stay some of the others where the others have one more, and where both have one more
pub some-longer : (found : List Finding) (f : Finding) (fs : List ManifestFault) → IsSubsequence (faults_in found) fs
    → IsSubsequence (faults_in found) (fs ++ f.fault ∷ [])
some-longer found f fs some = subsequence_longer (faults_in found) fs f.fault some

pub some-next : (found : List Finding) (f : Finding) (fs : List ManifestFault) → IsSubsequence (faults_in found) fs
    → IsSubsequence (faults_in (found ++ f ∷ [])) (fs ++ f.fault ∷ [])
some-next found f fs some =
    subst (λ (gs : List ManifestFault). IsSubsequence gs (fs ++ f.fault ∷ [])) (sym (faults-next found f)) (subsequence_next (faults_in found) fs f.fault some)

-- one fault more
shows-next : (path : List ℕ) (ms : Members) (found : List Finding) (f : Finding) (spot : Option Spot) (old new : List Remark)
    → AddsLine (fault_said path (Some ms) (located f spot)) old new → ShowsFindings path ms found old → ShowsFindings path ms (found ++ f ∷ []) new
shows-next path ms found f spot old new adds shows =
    let says : Located → Saying = fault_said path (Some ms) in
    record {
      faults = shows.faults ++ located f spot ∷ [];
      are = map-append (λ (l : Located). l.fault) shows.faults (located f spot ∷ []) ∙ ap (λ (fs : List ManifestFault). fs ++ f.fault ∷ []) shows.are
          ∙ sym (faults-next found f);
      lines = subst (λ (ss : List Saying). SayInTurn ss new) (sym (map-append says shows.faults (located f spot ∷ []))) (adds (map says shows.faults) shows.lines);
    }

-- in a loop over what was found, of which this is the one with number i
pub shown-at : (path : List ℕ) (ms : Members) (found : List Finding) (i : ℕ) (d : Finding) (spot : Option Spot) (old new : List Remark) → i < length found
    → AddsLine (fault_said path (Some ms) (located (get_or found i d) spot)) old new → ShowsFindings path ms (take i found) old
    → ShowsFindings path ms (take (i + 1) found) new
shown-at path ms found i d spot old new inside adds shows =
    let next : i + 1 ≡ suc i = omega arith in
    let front : take (i + 1) found ≡ take i found ++ get_or found i d ∷ [] = ap (λ (n : ℕ). take n found) next ∙ take-suc found i d inside in
    subst (λ (fs : List Finding). ShowsFindings path ms fs new) (sym front) (shows-next path ms (take i found) (get_or found i d) spot old new adds shows)

-- all is said
pub all-shown : (path : List ℕ) (ms : Members) (found : List Finding) (i : ℕ) (remarks : List Remark) → length found ≤ i → ShowsFindings path ms (take i found) remarks
    → ShowsFindings path ms found remarks
all-shown path ms found i remarks past shows = subst (λ (fs : List Finding). ShowsFindings path ms fs remarks) (take_all i found past) shows
