-- The launches of a release, checked one after another.
use Rattle.std.proofs.Common.{◌≡◌, Some, ◌∙◌, ◌+◌, ◌<◌, ◌≤◌, ◌||◌, ℕ, Bool, true, false, List, [], ◌∷◌, ◌++◌, ap, append_assoc, arith, get_or, length, refl}
use Rattle.std.proofs.Common.{subst, suc, sym, take}
use Rattle.std.specs.Prelude.{Result, Ok, Err, IfOk, is_err}
use Rattle.refusal.specs.declared.memory.NoMemory.{NoMemory}
use Rattle.std.specs.List.{flat_map, slice_get}
use Rattle.std.proofs.Math.Seq.{take-suc}
use Rattle.std.proofs.lemmas.Grind.{flat_map-append}
use Rattle.std.proofs.lemmas.List.{append-nil, take_all}
use Rattle.std.proofs.lemmas.List.Folds.{list_any-append}
use Rattle.std.proofs.lemmas.Option.{slice_get_read}
use Rattle.rim_manifest.specs.Launches.{AreNumbered, NamedData, ReleaseData}
use Rattle.rim_accepted.specs.Accepted.{accepted_of}
use Rattle.rim_accepted.specs.Lines.{has_refused}
use Rattle.page_jobs.specs.Key.{rising_keys}
use Rattle.page_jobs.specs.declared.page.PageKey.{PageKey}
use Rattle.rim_pages.specs.Pages.{launch_keys, page_keys}
use Rattle.rim_check.specs.Explained.{AreSaidOf, IsLaunchCheck, IsSaidOf, fault_of, pages_said}
use Rattle.shown_text.specs.declared.remark.Remark.{Remark}
use Rattle.shown_text.specs.Lines.{AddsAll, Saying, SayInTurn}
use Rattle.rim_check.specs.Warned.{ShowsWarnings}
use Rattle.rim_check.specs.declared.found.Found.{Found}
use Rattle.rim_check.specs.declared.found.LaunchCheck.{LaunchCheck}
use Rattle.rim_check.specs.inside.Found.{AddsFound, AreWarned, numbers_of}

-- there is one remark for each launch that is refused
pub record ShowsRefusals (files : List (List ℕ)) (ls : List NamedData) (remarks : List Remark) : Type 0 where
  pub said : List Saying
  pub are : AreSaidOf files ls said
  pub lines : SayInTurn said remarks

-- what is found of the launches before one: their remarks, whether one of them is refused, their pages and their warnings
pub record AreChecked (files : List (List ℕ)) (all ls : List NamedData) (found : Found) : Type 0 where
  pub shows : ShowsRefusals files ls found.refusals.items
  pub refused : found.has_refused ≡ has_refused files ls
  pub pages : found.pages ≡ flat_map (launch_keys files) ls
  pub warned : AreWarned files all (numbers_of found.warnings)

or-false : (b : Bool) → (b || false) ≡ b
or-false true = refl
or-false false = refl

-- what is said of some launches, and then of one more
said-next : (files : List (List ℕ)) (ls : List NamedData) (l : NamedData) (said own : List Saying)
    → AreSaidOf files ls said → IsSaidOf files l own
    → AreSaidOf files (ls ++ l ∷ []) (said ++ own)
said-next files [] l said own are is = (own, [], is, refl, ap (λ (ss : List Saying). ss ++ own) are ∙ sym (append-nil own))
said-next files (x ∷ ls) l said own are is =
    let others : List Saying = are.1 in
    (are.0, others ++ own, are.2, said-next files ls l others own are.3 is, ap (λ (ss : List Saying). ss ++ own) are.4 ∙ append_assoc are.0 others own)

some-next : (files : List (List ℕ)) (ls : List NamedData) (l : NamedData) → has_refused files (ls ++ l ∷ []) ≡ (has_refused files ls || is_err
    (accepted_of l.launch files))
some-next files ls l =
    list_any-append (λ (x : NamedData). is_err (accepted_of x.launch files)) ls (l ∷ [])
    ∙ ap (λ (b : Bool). has_refused files ls || b) (or-false (is_err (accepted_of l.launch files)))

-- one launch more
checked-next : (files : List (List ℕ)) (all ls : List NamedData) (l : NamedData) (old new : Found)
    → slice_get all l.launch.number ≡ Some l → AddsFound files l old new → AreChecked files all ls old → AreChecked files all
    (ls ++ l ∷ []) new
checked-next files all ls l old new there adds are = record {
  shows = record {
    said = are.shows.said ++ adds.said.own;
    are = said-next files ls l are.shows.said adds.said.own are.shows.are adds.said.are;
    lines = adds.said.adds are.shows.said are.shows.lines;
  };
  refused = adds.refused ∙ ap (λ (b : Bool). b || is_err (accepted_of l.launch files)) are.refused ∙ sym (some-next files ls l);
  pages = adds.pages ∙ ap (λ (ks : List PageKey). ks ++ launch_keys files l) are.pages
      ∙ ap (λ (ks : List PageKey). flat_map (launch_keys files) ls ++ ks) (sym (append-nil (launch_keys files l)))
      ∙ sym (flat_map-append (launch_keys files) ls (l ∷ []));
  warned = adds.warned all there are.warned;
}

-- in a loop over the launches, of which this is the one with number i
pub checked-at : (files : List (List ℕ)) (all ls : List NamedData) (i : ℕ) (l : NamedData) (old new : Found)
    → i < length ls → l ≡ get_or ls i l → slice_get all l.launch.number ≡ Some l → AddsFound files l old new
    → AreChecked files all (take i ls) old → AreChecked files all (take (i + 1) ls) new
checked-at files all ls i l old new inside is there adds are =
    let next : i + 1 ≡ suc i = omega arith in
    subst (λ (front : List NamedData). AreChecked files all front new)
    (sym (ap (λ (n : ℕ). take n ls) next ∙ take-suc ls i l inside ∙ ap (λ (x : NamedData). take i ls ++ x ∷ []) (sym is)))
    (checked-next files all (take i ls) l old new there adds are)

-- the launch at a place of a release has it as its number
pub numbered-at : (r : ReleaseData) (ls : List NamedData) (i : ℕ) (l : NamedData) → AreNumbered r → ls ≡ r.launches
    → i < length ls → l ≡ get_or ls i l → slice_get r.launches l.launch.number ≡ Some l
numbered-at r ls i l are own inside is =
    let here : slice_get r.launches i ≡ Some l = ap (λ (xs : List NamedData). slice_get xs i) (sym own) ∙ slice_get_read ls (length ls) i l refl inside is in
    ap (slice_get r.launches) (are i l here).0 ∙ here

-- all launches are checked
pub all-checked : (files : List (List ℕ)) (ls all : List NamedData) (i : ℕ) (found : Found) → ls ≡ all → length ls ≤ i
    → AreChecked files all (take i ls) found → AreChecked files all all found
all-checked files ls all i found own past are =
    subst (λ (xs : List NamedData). AreChecked files all xs found) (take_all i ls past ∙ own) are

-- what was found of all launches is what the check shows
pub is-check : (files : List (List ℕ)) (all : List NamedData) (found : Found) (check : LaunchCheck)
    → check.fault ≡ fault_of (length (rising_keys found.pages)) found.has_refused
    → AddsAll (pages_said (length (rising_keys found.pages))) found.refusals.items check.faults.items
    → ((fs : List (List ℕ)) → AreWarned fs all (numbers_of found.warnings) → ShowsWarnings fs all check.warnings.items)
    → AreChecked files all all found → IsLaunchCheck files all check
unfolding page_keys
is-check files all found check fault faults warnings are =
    let count : length (rising_keys found.pages) ≡ length (page_keys files all) = ap (λ (ks : List PageKey). length (rising_keys ks)) are.pages in
    record {
      fault = fault ∙ ap (λ (n : ℕ). fault_of n found.has_refused) count ∙ ap (fault_of (length (page_keys files all))) are.refused;
      faults = record {
        said = are.shows.said;
        are = are.shows.are;
        lines = subst (λ (n : ℕ). SayInTurn (are.shows.said ++ pages_said n) check.faults.items) count (faults are.shows.said are.shows.lines);
      };
      warnings = warnings files are.warned;
    }

pub all-found : (files : List (List ℕ)) (all : List NamedData) (found : Found) (answer : Result LaunchCheck NoMemory)
    → IfOk answer (λ c. c.fault ≡ fault_of (length (rising_keys found.pages)) found.has_refused)
    → IfOk answer (λ c. AddsAll (pages_said (length (rising_keys found.pages))) found.refusals.items c.faults.items)
    → IfOk answer (λ c. (fs : List (List ℕ)) → AreWarned fs all (numbers_of found.warnings) → ShowsWarnings fs all c.warnings.items)
    → AreChecked files all all found → IfOk answer (IsLaunchCheck files all)
all-found files all found (Ok check) fault faults warnings are = is-check files all found check fault faults warnings are
all-found files all found (Err e) fault faults warnings are = tt
