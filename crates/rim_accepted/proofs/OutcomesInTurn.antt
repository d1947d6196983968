-- What the launches of a release come to, one after another.
use Rattle.std.proofs.Common.{◌≡◌, ℕ, ◌+◌, ◌<◌, ◌∙◌, ◌||◌, arith, get_or, zero, suc, take, List, [], ◌∷◌, ◌++◌, length, map, Vec, Global, refl}
use Rattle.std.proofs.Common.{ap, ap₂, sym, subst}
use Rattle.std.proofs.Math.Seq.{take-suc}
use Rattle.std.proofs.lemmas.Option.{same_Some}
use Rattle.std.specs.Prelude.{Some, option_and_then, Result, Ok, Err, IfErr, IfOk, IsOk, is_err}
use Rattle.std.specs.List.{list_any, slice_get}
use Rattle.std.specs.Result.{result_ok}
use Rattle.list_model.specs.Entries.{Entry}
use Rattle.ipa_layout.specs.Files.{bytes_of_files}
use Rattle.ipa_layout.specs.Layout.{PlacedData, places}
use Rattle.rmi_list.specs.Listed.{listed}
use Rattle.rmi_list.specs.declared.fault.ListFault.{ListFault}
use Rattle.rim_manifest.specs.Launches.{NamedData}
use Rattle.rim_accepted.specs.Accepted.{accepted_of, places_of}
use Rattle.rim_accepted.specs.Lines.{has_refused}
use Rattle.rim_accepted.specs.Outcomes.{AreOutcomes, IsOutcome, IsReasoned, place_in, place_of, placed_before}
use Rattle.rim_accepted.specs.declared.accepted.AcceptedLaunch.{AcceptedLaunch}
use Rattle.rim_accepted.specs.declared.audit_fault.AuditFault.{AuditFault}
use Rattle.rim_accepted.specs.declared.reason.LaunchReason.{LaunchReason}
use Rattle.rim_accepted.specs.declared.reason.LaunchReason.TheVariants.{Layout, List as Lists}
use Rattle.rim_accepted.specs.declared.refused.RefusedLaunch.{RefusedLaunch}
use Rattle.rim_accepted.specs.Reasons.{HasReason, IsRefusedFor, audit_fault_of}
use Rattle.rim_accepted.proofs.FirstReasons.{refused-accepted}

-- one launch more
outcomes-append : (files : List (List ℕ)) (ls : List NamedData) (l : NamedData) (rs : List (Result AcceptedLaunch RefusedLaunch))
    (r : Result AcceptedLaunch RefusedLaunch)
    → IsOutcome files l r → AreOutcomes files ls rs → AreOutcomes files (ls ++ l ∷ []) (rs ++ r ∷ [])
outcomes-append files [] l [] r is are = (is, tt)
outcomes-append files [] l (other ∷ rs) r is are = absurd are
outcomes-append files (first ∷ ls) l [] r is are = absurd are
outcomes-append files (first ∷ ls) l (other ∷ rs) r is are = (are.0, outcomes-append files ls l rs r is are.1)

-- in a loop over the launches, of which this is the one with number i
pub outcomes-next : (files : List (List ℕ)) (ls : List NamedData) (i : ℕ) (d : NamedData) (rs rs' : List (Result AcceptedLaunch RefusedLaunch))
    (r : Result AcceptedLaunch RefusedLaunch)
    → i < length ls → IsOutcome files (get_or ls i d) r → rs' ≡ rs ++ r ∷ [] → AreOutcomes files (take i ls) rs → AreOutcomes files (take (i + 1) ls) rs'
outcomes-next files ls i d rs rs' r inside is added are =
    let next : i + 1 ≡ suc i = omega arith in
    let taken : take (i + 1) ls ≡ take i ls ++ get_or ls i d ∷ [] = ap (λ (n : ℕ). take n ls) next ∙ take-suc ls i d inside in
    subst (λ (xs : List NamedData). AreOutcomes files xs rs') (sym taken)
    (subst (AreOutcomes files (take i ls ++ get_or ls i d ∷ [])) (sym added) (outcomes-append files (take i ls) (get_or ls i d) rs r is are))

-- what a launch was found to come to
pub outcome-is : (files : List (Vec ℕ Global)) (l launch : NamedData) (found : Result AcceptedLaunch RefusedLaunch)
    → launch ≡ l → IsReasoned launch.launch (bytes_of_files files) found
    → IfOk found (λ a. (a.named.now ≡ launch) × (a.files.now ≡ files)) → IfErr found (λ r. (r.named.now ≡ launch) × (r.files.now ≡ files))
    → IsOutcome (bytes_of_files files) l found
outcome-is files l launch (Ok a) same reasoned own refused = (own.0 ∙ same, ap bytes_of_files own.1)
outcome-is files l launch (Err r) same reasoned own refused = (
  refused.0 ∙ same,
  ap bytes_of_files refused.1,
  subst (λ (x : NamedData). IsRefusedFor x.launch (bytes_of_files files) r.reason) same reasoned,
)

-- a launch that is refused is not accepted
pub own-refusal : (files : List (List ℕ)) (l : NamedData) (r : RefusedLaunch) → IsOutcome files l (Err r)
    → accepted_of l.launch files ≡ Err (audit_fault_of r.reason)
own-refusal files l r is = refused-accepted l.launch files r.reason is.2

-- a launch that is accepted has the place that its definition gives it
pub accepted-place : (a : AcceptedLaunch) → accepted_of a.named.now.launch (bytes_of_files a.files.now) ≡ Ok a.placed
unfolding accepted_of
accepted-place a = by_list (listed a.named.now.launch a.placed) refl a.is_listed
  where
    by_list : (found : Result (List Entry) ListFault) → listed a.named.now.launch a.placed ≡ found → IsOk found
        → accepted_of a.named.now.launch (bytes_of_files a.files.now) ≡ Ok a.placed
    by_list (Err fault) is ok = absurd (cc)
    by_list (Ok entries) is ok = rw (a.is_placed.placed, is) refl

-- and so has the launch that it is
pub own-place : (files : List (List ℕ)) (l : NamedData) (a : AcceptedLaunch) → IsOutcome files l (Ok a) → accepted_of l.launch files ≡ Ok a.placed
own-place files l a is =
    sym (ap (λ (x : NamedData). accepted_of x.launch files) is.0)
    ∙ sym (ap (accepted_of a.named.now.launch) is.1)
    ∙ accepted-place a

pub place-is : (files : List (List ℕ)) (l : NamedData) (r : Result AcceptedLaunch RefusedLaunch) → IsOutcome files l r → place_of r ≡ accepted_of l.launch files
place-is files l (Ok a) is = sym (own-place files l a is)
place-is files l (Err r) is = sym (own-refusal files l r is)

-- of each launch
pub places-are : (files : List (List ℕ)) (ls : List NamedData) (rs : List (Result AcceptedLaunch RefusedLaunch)) → AreOutcomes files ls rs
    → map place_of rs ≡ places_of files ls
places-are files [] [] are = refl
places-are files [] (r ∷ rs) are = absurd are
places-are files (l ∷ ls) [] are = absurd are
places-are files (l ∷ ls) (r ∷ rs) are =
    ap₂ (λ (place : Result PlacedData AuditFault) (places : List _). place ∷ places) (place-is files l r are.0) (places-are files ls rs are.1)

-- some launch is refused exactly where some outcome is a refusal
pub refused-are : (files : List (List ℕ)) (ls : List NamedData) (rs : List (Result AcceptedLaunch RefusedLaunch)) → AreOutcomes files ls rs
    → list_any is_err rs ≡ has_refused files ls
refused-are files [] [] are = refl
refused-are files [] (r ∷ rs) are = absurd are
refused-are files (l ∷ ls) [] are = absurd are
refused-are files (l ∷ ls) (r ∷ rs) are = ap₂ ◌||◌ (one r are.0) (refused-are files ls rs are.1)
  where
    one : (r : Result AcceptedLaunch RefusedLaunch) → IsOutcome files l r → is_err r ≡ is_err (accepted_of l.launch files)
    one (Ok a) is = sym (ap is_err (own-place files l a is))
    one (Err r) is = sym (ap is_err (own-refusal files l r is))

-- a launch that could be laid out has the place that its definition gives it
pub placed-is : (files : List (List ℕ)) (l : NamedData) (r : Result AcceptedLaunch RefusedLaunch) → IsOutcome files l r
    → place_in r ≡ result_ok (places l.launch files)
placed-is files l (Ok a) is =
    rw (sym (ap (λ (x : NamedData). places x.launch files) is.0) ∙ sym (ap (places a.named.now.launch) is.1) ∙ a.is_placed.placed) refl
placed-is files l (Err r) is = by_reason r.reason is.2.reason
  where
    by_reason : (why : LaunchReason) → HasReason l.launch files why → placed_before why ≡ result_ok (places l.launch files)
    by_reason (Layout why) has = rw has refl
    by_reason (Lists p why granules) has = rw (has.0) refl

-- the launch of a number, and what it comes to
pub own-at : (files : List (List ℕ)) (ls : List NamedData) (rs : List (Result AcceptedLaunch RefusedLaunch)) (i : ℕ) (d : Result AcceptedLaunch RefusedLaunch)
    → AreOutcomes files ls rs → i < length rs → (l : NamedData) × ((slice_get ls i ≡ Some l) × IsOutcome files l (get_or rs i d))
own-at files [] [] i d are inside = absurd (omega (arith, inside))
own-at files [] (r ∷ rs) i d are inside = absurd are
own-at files (l ∷ ls) [] i d are inside = absurd are
own-at files (l ∷ ls) (r ∷ rs) zero d are inside = (l, (refl, are.0))
own-at files (l ∷ ls) (r ∷ rs) (suc i) d are inside = own-at files ls rs i d are.1 (omega (arith, inside))

pub as-many : (files : List (List ℕ)) (ls : List NamedData) (rs : List (Result AcceptedLaunch RefusedLaunch)) → AreOutcomes files ls rs
    → length ls ≡ length rs
as-many files [] [] are = refl
as-many files [] (r ∷ rs) are = absurd are
as-many files (l ∷ ls) [] are = absurd are
as-many files (l ∷ ls) (r ∷ rs) are = ap suc (as-many files ls rs are.1)

-- its place, if it could be laid out
pub place-at : (files : List (List ℕ)) (ls : List NamedData) (rs : List (Result AcceptedLaunch RefusedLaunch)) (i : ℕ) (l : NamedData)
    → AreOutcomes files ls rs → slice_get ls i ≡ Some l → option_and_then place_in (slice_get rs i) ≡ result_ok (places l.launch files)
place-at files [] rs i l are here = absurd (cc)
place-at files (first ∷ ls) [] i l are here = absurd are
place-at files (first ∷ ls) (r ∷ rs) zero l are here =
    placed-is files first r are.0 ∙ ap (λ (x : NamedData). result_ok (places x.launch files)) (same_Some first l here)
place-at files (first ∷ ls) (r ∷ rs) (suc i) l are here = place-at files ls rs i l are.1 here
