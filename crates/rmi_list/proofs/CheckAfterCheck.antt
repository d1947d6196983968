-- What checks answer one after another: the planner's first, then the list's own.
use Rattle.std.proofs.Common.{inl, inr, ◌≡◌, refl, false, ℕ, ◌⊎◌, List, [], ◌∷◌, ◌++◌}
use Rattle.std.specs.Prelude.{Ok, Err, Result, Some}
use Rattle.std.proofs.lemmas.Bool.{cases_Bool, or_parts}
pub use Rattle.refusal.proofs.AnswersInTurn.{bind-ok as bound}
use Rattle.refusal.specs.Answer.{with_front}
use Rattle.refusal.specs.Checks.{Check, unless_refused}
use Rattle.rmm_model.proofs.AnswersOfChecks.{holds}
use Rattle.rtt_plan.specs.declared.fault.PlanFault.{PlanFault}
use Rattle.rtt_plan.specs.declared.fault.PlanFault.TheVariants as plan
use Rattle.ipa_layout.specs.declared.reason.IpaRange.{IpaRange}
use Rattle.rmi_list.specs.declared.fault.ListFault.{ListFault}
use Rattle.rmi_list.specs.declared.fault.ListFault.TheVariants as fault
use Rattle.rmi_list.specs.Listed.{Listing, plan_checks}
use Rattle.rmi_list.specs.declared.reason.StepReason.TheVariants as step_reason
use Rattle.rmi_list.specs.inside.Steps.{IsStepFault, plan_fault}

-- an answer is what was asked for
pub is-done : {A E : Type 0} (checks : List (Check E)) (done answer : A) → unless_refused checks done ≡ Ok answer → done ≡ answer
is-done [] done answer = λ at. cc
is-done (check ∷ others) done answer = elim (cases_Bool check.1) [
  | inl on ↦ rw on (λ at. absurd (cc))
  | inr off ↦ rw off (λ at. is-done others done answer at)
]

pub fronted : {A E : Type 0} (front : List A) (r : Result (List A) E) (all : List A) → with_front front r ≡ Ok all
    → (others : List A) × (r ≡ Ok others) × (all ≡ front ++ others)
fronted front (Ok others) all h = (others, refl, cc)
fronted front (Err e) all h = absurd (cc)

-- ---- the planner's checks, in front of a list's own

pub plan-off : (checks : List (Check PlanFault)) (others : List (Check ListFault)) → holds (plan_checks checks ++ others) ≡ false → holds checks ≡ false
plan-off [] others off = refl
plan-off (c ∷ cs) others off =
    let both = or_parts (c.1) (holds (plan_checks cs ++ others)) off in
    rw (both.0, plan-off cs others both.1) refl

pub passed-front : {A B : Type 0} (checks : List (Check PlanFault)) (a ok : A) (others : List (Check ListFault)) (b : B) → unless_refused checks a ≡ Ok ok
    → unless_refused (plan_checks checks ++ others) b ≡ unless_refused others b
passed-front [] a ok others b = λ at. refl
passed-front (c ∷ cs) a ok others b = elim (cases_Bool c.1) [
  | inl on ↦ rw on (λ at. absurd (cc))
  | inr off ↦ rw off (λ at. passed-front cs a ok others b at)
]

pub refused-front : {A B : Type 0} (checks : List (Check PlanFault)) (a : A) (e : PlanFault) (others : List (Check ListFault)) (b : B)
    → unless_refused checks a ≡ Err e
    → unless_refused (plan_checks checks ++ others) b ≡ Err (fault.Plan e)
refused-front [] a e others b = λ at. absurd (cc)
refused-front (c ∷ cs) a e others b = elim (cases_Bool c.1) [
  | inl on ↦ rw on (λ at. (let same : c.0 ≡ e = cc in rw same refl))
  | inr off ↦ rw off (λ at. refused-front cs a e others b at)
]

-- what the planner answered, as a step answers it
pub plan-refused : {A : Type 0} (e : PlanFault) (range : IpaRange) (n : ℕ) (planned : Result A PlanFault) (listed : Result Listing ListFault)
    → (planned ≡ Err e → listed ≡ Err (fault.Plan e)) → (e ≡ plan.NoMemory) ⊎ (planned ≡ Err e) → IsStepFault (Some range) n (plan_fault e range) listed
plan-refused plan.NoMemory range n planned listed on h = inl refl
plan-refused plan.OutsideProtected range n planned listed on (inl h) = absurd (cc)
plan-refused plan.OutsideProtected range n planned listed on (inr h) = inr (step_reason.Plan plan.OutsideProtected range, refl, on h, refl)
plan-refused plan.Unaligned range n planned listed on (inl h) = absurd (cc)
plan-refused plan.Unaligned range n planned listed on (inr h) = inr (step_reason.Plan plan.Unaligned range, refl, on h, refl)
plan-refused plan.RipasTwice range n planned listed on (inl h) = absurd (cc)
plan-refused plan.RipasTwice range n planned listed on (inr h) = inr (step_reason.Plan plan.RipasTwice range, refl, on h, refl)
plan-refused plan.NotRam range n planned listed on (inl h) = absurd (cc)
plan-refused plan.NotRam range n planned listed on (inr h) = inr (step_reason.Plan plan.NotRam range, refl, on h, refl)
plan-refused plan.DataTwice range n planned listed on (inl h) = absurd (cc)
plan-refused plan.DataTwice range n planned listed on (inr h) = inr (step_reason.Plan plan.DataTwice range, refl, on h, refl)
plan-refused plan.TooManyEntries range n planned listed on (inl h) = absurd (cc)
plan-refused plan.TooManyEntries range n planned listed on (inr h) = inr (step_reason.Plan plan.TooManyEntries range, refl, on h, refl)
