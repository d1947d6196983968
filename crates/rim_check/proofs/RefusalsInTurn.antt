-- The remarks on the launches of a release, one after another.
use Rattle.std.proofs.Common.{◌≡◌, ◌∙◌, ℕ, ◌+◌, ◌<◌, ◌≤◌, get_or, take, false, refl, List, [], ◌∷◌, ◌++◌, length, ap, subst, sym}
use Rattle.std.proofs.lemmas.List.{take_all}
use Rattle.std.specs.Prelude.{Option, Some, None, Result, Ok, Err, IsOk, is_err}
use Rattle.ipa_layout.specs.Layout.{PlacedData}
use Rattle.rim_manifest.specs.Launches.{NamedData}
use Rattle.rim_accepted.specs.Accepted.{rim_for}
use Rattle.rim_accepted.specs.Outcomes.{AreOutcomes, IsOutcome}
use Rattle.rim_accepted.specs.declared.accepted.AcceptedLaunch.{AcceptedLaunch}
use Rattle.rim_accepted.specs.declared.audit_fault.AuditFault.{AuditFault}
use Rattle.rim_accepted.specs.declared.refused.RefusedLaunch.{RefusedLaunch}
use Rattle.rim_accepted.proofs.LinesOfLaunches.{one-more}
use Rattle.rim_accepted.proofs.OutcomesInTurn.{own-at, own-place}
use Rattle.rim_accepted.proofs.RefusedLaunches.{same_refusal}
use Rattle.rim_check.specs.Explained.{AreRefusals, IsRefusalOf, refusal_said}
use Rattle.shown_text.specs.Lines.{Says}
use Rattle.shown_text.specs.declared.remark.Remark.{Remark}

not-refused : (r : Result (List ℕ) AuditFault) → is_err r ≡ false → IsOk r
not-refused (Ok rim) off = refl
not-refused (Err fault) off = absurd (cc)

-- there is none on a launch that is accepted
pub none-on : (files : List (List ℕ)) (l : NamedData) (a : AcceptedLaunch) → IsOutcome files l (Ok a) → IsOk (rim_for l.launch files)
none-on files l a is =
    not-refused (rim_for l.launch files) (same_refusal l.launch files ∙ ap (λ (r : Result PlacedData AuditFault). is_err r) (own-place files l a is))

-- and there is one on one that is refused
pub one-on : (files : List (List ℕ)) (l : NamedData) (refused : RefusedLaunch) (r : Remark) → IsOutcome files l (Err refused)
    → Says (refusal_said refused.named.now refused.reason) r → IsRefusalOf files l (Some r)
one-on files l refused r is says =
    (refused.reason, is.2, subst (λ (x : NamedData). Says (refusal_said x refused.reason) r) is.0 says)

-- one launch more
refusals-append : (files : List (List ℕ)) (ls : List NamedData) (l : NamedData) (rs : List (Option Remark)) (r : Option Remark)
    → IsRefusalOf files l r → AreRefusals files ls rs → AreRefusals files (ls ++ l ∷ []) (rs ++ r ∷ [])
refusals-append files [] l [] r is are = (is, tt)
refusals-append files [] l (other ∷ rs) r is are = absurd are
refusals-append files (first ∷ ls) l [] r is are = absurd are
refusals-append files (first ∷ ls) l (other ∷ rs) r is are = (are.0, refusals-append files ls l rs r is are.1)

-- in a loop over what the launches come to, of which this is the one with number i
pub refusals-next : (files : List (List ℕ)) (ls : List NamedData) (os : List (Result AcceptedLaunch RefusedLaunch)) (i : ℕ)
    (e : Result AcceptedLaunch RefusedLaunch) (rs rs' : List (Option Remark)) (r : Option Remark)
    → AreOutcomes files ls os → i < length os → ((l : NamedData) → IsOutcome files l (get_or os i e) → IsRefusalOf files l r)
    → rs' ≡ rs ++ r ∷ [] → AreRefusals files (take i ls) rs → AreRefusals files (take (i + 1) ls) rs'
refusals-next files ls os i e rs rs' r outcomes inside is added are =
    let own = own-at files ls os i e outcomes inside in
    subst (λ (xs : List NamedData). AreRefusals files xs rs') (one-more ls i own.0 own.1.0)
    (subst (AreRefusals files (take i ls ++ own.0 ∷ [])) (sym added) (refusals-append files (take i ls) own.0 rs r (is own.0 own.1.1) are))

-- after the last launch these are all
pub all-refusals : (files : List (List ℕ)) (ls : List NamedData) (n : ℕ) (rs : List (Option Remark)) → length ls ≤ n → AreRefusals files (take n ls) rs
    → AreRefusals files ls rs
all-refusals files ls n rs over are = subst (λ (xs : List NamedData). AreRefusals files xs rs) (take_all n ls over) are
