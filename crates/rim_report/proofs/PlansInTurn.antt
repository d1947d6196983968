-- The plans of the launches of a release, one after another.
use Rattle.std.proofs.Common.{◌≡◌, ℕ, ◌+◌, ◌<◌, ◌≤◌, arith, get_or, take, List, [], ◌∷◌, ◌++◌, length, refl, sym, subst}
use Rattle.std.proofs.lemmas.List.{append-nil, take_all}
use Rattle.std.specs.Prelude.{Result, Ok, Err, Some}
use Rattle.std.specs.List.{slice_get}
use Rattle.ipa_layout.specs.Layout.{PlacedData}
use Rattle.rim_launch.specs.LaunchData.{LaunchData}
use Rattle.rim_manifest.specs.Launches.{NamedData}
use Rattle.launch_plan.specs.Links.{PlanView}
use Rattle.launch_plan.specs.Reading.{IsReadOf}
use Rattle.rim_accepted.specs.Accepted.{accepted_of}
use Rattle.rim_accepted.specs.Outcomes.{AreOutcomes, IsOutcome}
use Rattle.rim_accepted.specs.declared.accepted.AcceptedLaunch.{AcceptedLaunch}
use Rattle.rim_accepted.specs.declared.audit_fault.AuditFault.{AuditFault}
use Rattle.rim_accepted.specs.declared.refused.RefusedLaunch.{RefusedLaunch}
use Rattle.rim_accepted.proofs.LinesOfLaunches.{one-more}
use Rattle.rim_accepted.proofs.OutcomesInTurn.{as-many, own-at, own-place, own-refusal}
use Rattle.rim_report.specs.Plans.{ArePlans, BeginsWith}

-- a plan more at the end
begins-append : (l : LaunchData) (place : Result PlacedData AuditFault) (now next : List PlanView → Type 0) (plans more : List PlanView)
    → ((vs : List PlanView) → now vs → next (vs ++ more)) → BeginsWith l place now plans → BeginsWith l place next (plans ++ more)
begins-append l (Err fault) now next plans more goes begins = goes plans begins
begins-append l (Ok p) now next [] more goes begins = absurd begins
begins-append l (Ok p) now next (v ∷ plans) more goes begins = (begins.0, goes plans begins.1)

plans-append : (files : List (List ℕ)) (ls : List NamedData) (l : NamedData) (plans more : List PlanView)
    → BeginsWith l.launch (accepted_of l.launch files) (λ vs. vs ≡ []) more → ArePlans files ls plans → ArePlans files (ls ++ l ∷ []) (plans ++ more)
plans-append files [] l plans more last are =
    subst (λ (vs : List PlanView). BeginsWith l.launch (accepted_of l.launch files) (λ others. others ≡ []) (vs ++ more)) (sym are) last
plans-append files (first ∷ ls) l plans more last are =
    begins-append first.launch (accepted_of first.launch files) (ArePlans files ls) (ArePlans files (ls ++ l ∷ [])) plans more
    (λ vs now. plans-append files ls l vs more last now) are

module _ (files : List (List ℕ)) (ls : List NamedData) (rs : List (Result AcceptedLaunch RefusedLaunch)) (are : AreOutcomes files ls rs) where
  -- a launch that is accepted adds its plan
  pub plan-added : (i : ℕ) (d : Result AcceptedLaunch RefusedLaunch) (a : AcceptedLaunch) (v : PlanView) (plans plans' : List PlanView)
      → i < length rs → get_or rs i d ≡ Ok a → IsReadOf a.named.now.launch a.placed v → plans' ≡ plans ++ v ∷ []
      → ArePlans files (take i ls) plans → ArePlans files (take (i + 1) ls) plans'
  plan-added i d a v plans plans' inside is read added so_far =
      let own = own-at files ls rs i d are inside in
      let l : NamedData = own.0 in
      let outcome : IsOutcome files l (Ok a) = subst (IsOutcome files l) is own.1.1 in
      let reads : IsReadOf l.launch a.placed v = subst (λ (x : NamedData). IsReadOf x.launch a.placed v) outcome.0 read in
      let last : BeginsWith l.launch (accepted_of l.launch files) (λ vs. vs ≡ []) (v ∷ [])
      = subst (λ (place : Result PlacedData AuditFault). BeginsWith l.launch place (λ vs. vs ≡ []) (v ∷ []))
      (sym (own-place files l a outcome)) (reads, refl) in
      subst (λ (xs : List NamedData). ArePlans files xs plans') (one-more ls i l own.1.0)
      (subst (ArePlans files (take i ls ++ l ∷ [])) (sym added) (plans-append files (take i ls) l plans (v ∷ []) last so_far))

  -- one that is refused adds none
  pub none-added : (i : ℕ) (d : Result AcceptedLaunch RefusedLaunch) (plans : List PlanView)
      → i < length rs → ((a : AcceptedLaunch) → get_or rs i d ≡ Ok a → ⊥) → ArePlans files (take i ls) plans → ArePlans files (take (i + 1) ls) plans
  none-added i d plans inside not_accepted so_far = by_outcome (get_or rs i d) refl
    where
      own : (l : NamedData) × ((slice_get ls i ≡ Some l) × IsOutcome files l (get_or rs i d))
      own = own-at files ls rs i d are inside

      by_outcome : (r : Result AcceptedLaunch RefusedLaunch) → get_or rs i d ≡ r → ArePlans files (take (i + 1) ls) plans
      by_outcome (Ok a) is = absurd (not_accepted a is)
      by_outcome (Err refused) is =
          let outcome : IsOutcome files own.0 (Err refused) = subst (IsOutcome files own.0) is own.1.1 in
          let last : BeginsWith own.0.launch (accepted_of own.0.launch files) (λ vs. vs ≡ []) []
          = subst (λ (place : Result PlacedData AuditFault). BeginsWith own.0.launch place (λ vs. vs ≡ []) [])
          (sym (own-refusal files own.0 refused outcome)) refl in
          subst (λ (xs : List NamedData). ArePlans files xs plans) (one-more ls i own.0 own.1.0)
          (subst (ArePlans files (take i ls ++ own.0 ∷ [])) (append-nil plans) (plans-append files (take i ls) own.0 plans [] last so_far))

  -- after the last launch these are all plans
  pub all-plans-added : (n : ℕ) (plans : List PlanView) → length rs ≤ n → ArePlans files (take n ls) plans → ArePlans files ls plans
  all-plans-added n plans over so_far =
      subst (λ (xs : List NamedData). ArePlans files xs plans) (take_all n ls (omega (arith, over, as-many files ls rs are))) so_far
