-- A digest goes into the slot of its own file, and all slots give the digests of all files.
use Rattle.std.proofs.Common.{◌≡◌, ◌∙◌, ◌<◌, ◌≤◌, ◌+◌, ℕ, zero, suc, List, [], ◌∷◌, ◌++◌, Vec, Global, length, map, take, replicate, get_or}
use Rattle.std.proofs.Common.{Option, Some, None, refl, sym, ap, arith, inl, inr}
use Rattle.std.specs.Prelude.{option_map, slice_set}
use Rattle.std.specs.List.{slice_get}
use Rattle.std.proofs.lemmas.Bool.{cases_eq}
use Rattle.std.proofs.lemmas.List.{length-map, length-replicate, length-set, take_all}
use Rattle.std.proofs.lemmas.Option.{same_Some, slice_get-get_or, slice_get-map}
use Rattle.sha2.specs.Sha256.{sha256}
use Rattle.ipa_layout.specs.Files.{bytes_of_files}
use Rattle.rim_report.specs.inside.Slots.{AreSlotsOf, IsDigestOf}

-- ---- one digest

-- there is a file of the number
pub digest-within : (files : List (List ℕ)) (i : ℕ) (d : List ℕ) → IsDigestOf files i d → i < length files
digest-within [] i d is = absurd (cc)
digest-within (file ∷ files) zero d is = omega arith
digest-within (file ∷ files) (suc i) d is =
    let low : i < length files = digest-within files i d is in omega (arith, low)

-- a file that is lent is the run's
pub file-own : (files : List (Vec ℕ Global)) (all : List (List ℕ)) (i : ℕ) (file : Vec ℕ Global) → bytes_of_files files ≡ all → i < length files
    → file ≡ get_or files i file → slice_get all i ≡ Some file.items
file-own files all i file same low at =
    ap (λ (fs : List (List ℕ)). slice_get fs i) (sym same)
    ∙ slice_get-map (λ (f : Vec ℕ Global). f.items) files i
    ∙ ap (option_map (λ (f : Vec ℕ Global). f.items)) (slice_get-get_or files i file low ∙ ap Some (sym at))

-- the digest of its bytes is its own
pub digest-made : (files : List (List ℕ)) (i : ℕ) (bytes d : List ℕ) → slice_get files i ≡ Some bytes → d ≡ sha256 bytes → IsDigestOf files i d
digest-made files i bytes d at is = ap (option_map sha256) at ∙ ap Some (sym is)

-- ---- slots

abbrev no_digest : Option (List ℕ)
no_digest = None

none-there : (n i : ℕ) (d : List ℕ) → slice_get (replicate n no_digest) i ≡ Some (Some d) → ⊥
none-there zero i d at = cc
none-there (suc n) zero d at = cc
none-there (suc n) (suc i) d at = none-there n i d at

-- all are empty at first
pub slots-empty : (files : List (List ℕ)) (slots : List (Option (List ℕ))) (n : ℕ) → slots ≡ replicate n None → n ≡ length files → AreSlotsOf files slots
slots-empty files slots n empty count = record {
  size = ap length empty ∙ length-replicate n no_digest ∙ count;
  own = λ i d at. absurd (none-there n i d (ap (λ (os : List (Option (List ℕ))). slice_get os i) (sym empty) ∙ at));
}

set-here : {X : Type 0} (xs : List X) (i : ℕ) (x : X) → i < length xs → slice_get (slice_set xs i x) i ≡ Some x
set-here [] i x inside = absurd (omega (arith, inside))
set-here (y ∷ ys) zero x inside = refl
set-here (y ∷ ys) (suc i) x inside = set-here ys i x (omega (arith, inside))

set-there : {X : Type 0} (xs : List X) (i j : ℕ) (x : X) → (j ≡ i → ⊥) → slice_get (slice_set xs i x) j ≡ slice_get xs j
set-there [] i j x other = refl
set-there (y ∷ ys) zero zero x other = absurd (other refl)
set-there (y ∷ ys) zero (suc j) x other = refl
set-there (y ∷ ys) (suc i) zero x other = refl
set-there (y ∷ ys) (suc i) (suc j) x other = set-there ys i j x (λ same. other (ap suc same))

-- a digest is put into the slot of its own file
pub slot-filled : (files : List (List ℕ)) (slots : List (Option (List ℕ))) (i : ℕ) (d : List ℕ) → AreSlotsOf files slots → IsDigestOf files i d
    → AreSlotsOf files (slice_set slots i (Some d))
slot-filled files slots i d are is = record {
  size = length-set slots i (Some d) ∙ are.size;
  own = λ j e at. elim (cases_eq j i) [
    | inl here ↦ here-own j e here at
    | inr other ↦ are.own j e (sym (set-there slots i j (Some d) other) ∙ at)
  ];
}
  where
    within : i < length slots
    within = let low = digest-within files i d is in let size = are.size in omega (arith, low, size)

    here-own : (j : ℕ) (e : List ℕ) → j ≡ i → slice_get (slice_set slots i (Some d)) j ≡ Some (Some e) → IsDigestOf files j e
    here-own j e here at =
        let slot : Some (Some d) ≡ Some (Some e) =
        sym (set-here slots i (Some d) within) ∙ ap (slice_get (slice_set slots i (Some d))) (sym here) ∙ at in
        let digest : Some d ≡ Some e = same_Some (Some d) (Some e) slot in
        ap (λ (k : ℕ). option_map sha256 (slice_get files k)) here ∙ is ∙ digest

-- a slot that is read
pub slot-read : (files : List (List ℕ)) (slots : List (Option (List ℕ))) (i : ℕ) (d : List ℕ) → AreSlotsOf files slots → i < length files
    → get_or slots i None ≡ Some d → IsDigestOf files i d
slot-read files slots i d are low at =
    let size = are.size in
    are.own i d (slice_get-get_or slots i None (omega (arith, low, size)) ∙ ap Some at)

-- ---- all digests

digest-added : (files : List (List ℕ)) (i : ℕ) (d : List ℕ) → IsDigestOf files i d → map sha256 (take (suc i) files) ≡ map sha256 (take i files) ++ d ∷ []
digest-added [] i d is = absurd (cc)
digest-added (file ∷ files) zero d is = ap (λ (x : List ℕ). x ∷ []) (same_Some (sha256 file) d is)
digest-added (file ∷ files) (suc i) d is = ap (λ (ds : List (List ℕ)). sha256 file ∷ ds) (digest-added files i d is)

-- a digest more
pub digests-next : (files : List (List ℕ)) (i : ℕ) (d : List ℕ) (made : List (List ℕ)) → IsDigestOf files i d → made ≡ map sha256 (take i files)
    → made ++ d ∷ [] ≡ map sha256 (take (i + 1) files)
digests-next files i d made is so_far =
    let next : i + 1 ≡ suc i = omega arith in
    ap (λ (ds : List (List ℕ)). ds ++ d ∷ []) so_far
    ∙ sym (ap (λ (n : ℕ). map sha256 (take n files)) next ∙ digest-added files i d is)

-- after the last file these are all
pub digests-all : (files : List (Vec ℕ Global)) (n : ℕ) → length files ≤ n → map sha256 (take n (bytes_of_files files)) ≡ map sha256 (bytes_of_files files)
digests-all files n over =
    let few : length (bytes_of_files files) ≤ n = omega (arith, over, length-map files (λ f. f.items)) in
    ap (map sha256) (take_all n (bytes_of_files files) few)
