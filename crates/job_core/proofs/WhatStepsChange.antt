-- What no step changes, and what each step makes of the state.
use Rattle.std.proofs.Common.{◌≡◌, Bool, true, false, length, Option, Some, ℕ, Ok, sym, ap, ◌∙◌}
use Rattle.std.specs.Prelude.{is_ok, unwrap_or}
use Rattle.job_core.specs.declared.job.Event.{Event}
use Rattle.job_core.specs.declared.job.JobId.{JobId}
use Rattle.job_core.specs.declared.job.JobState.TheVariants.{Free, Held, Done}
use Rattle.job_core.specs.declared.job.Event.TheVariants.{Take, Put, Retire}
use Rattle.job_core.specs.Jobs.{CoreState, is_out, is_ready, state_of, with_job, without_worker}
use Rattle.job_core.specs.Step.{core_step}
use Rattle.job_core.specs.Events.{after, is_accepted, next_state}
use Rattle.job_core.proofs.OneJobChanges.{not_out}
use Rattle.job_core.proofs.LegalLists.{needs_next, size_next}
use Rattle.job_core.proofs.NeverStuck.{first_next}
use Rattle.job_core.proofs.AcceptedEvents.{accepted_put, accepted_retire, accepted_take}

-- what a step that went well says
pub accepted : (s t : CoreState) (e : Event) → core_step s e ≡ Ok t → is_accepted s e ≡ true
unfolding is_accepted
accepted s t e is = ap is_ok is

pub next_is : (s t : CoreState) (e : Event) → core_step s e ≡ Ok t → next_state s e ≡ t
unfolding next_state
next_is s t e is = ap (after s) is

pub needs : (s t : CoreState) (e : Event) → core_step s e ≡ Ok t → t.needs ≡ s.needs
needs s t e is = sym (ap (λ (u : CoreState). u.needs) (next_is s t e is)) ∙ needs_next s e (accepted s t e is)

pub workers : (s t : CoreState) (e : Event) → core_step s e ≡ Ok t → length t.retired ≡ length s.retired
workers s t e is = sym (ap (λ (u : CoreState). length u.retired) (next_is s t e is)) ∙ (size_next s e (accepted s t e is)).workers

pub pages : (s t : CoreState) (e : Event) → core_step s e ≡ Ok t → length t.pages ≡ length s.pages
pages s t e is = sym (ap (λ (u : CoreState). length u.pages) (next_is s t e is)) ∙ (size_next s e (accepted s t e is)).pages

pub launches : (s t : CoreState) (e : Event) → core_step s e ≡ Ok t → length t.launches ≡ length s.launches
launches s t e is = sym (ap (λ (u : CoreState). length u.launches) (next_is s t e is)) ∙ (size_next s e (accepted s t e is)).launches

pub first : (s t : CoreState) (e : Event) → core_step s e ≡ Ok t → is_out s 0 ≡ false → is_out t 0 ≡ false
first s t e is known =
    let at = first_next s e (accepted s t e is) (not_out s 0 known) in
    sym (ap (λ (u : CoreState). is_out u 0) (next_is s t e is)) ∙ ap (λ (o : Option Bool). unwrap_or o true) at

-- ---- what each step says of the state, and what it makes of it

pub take_says : (s t : CoreState) (w : ℕ) (job : JobId) → core_step s (Take w job) ≡ Ok t → (state_of s job ≡ Some Free) × (is_ready s job ≡ true) × (t ≡ with_job s job (Held w))
take_says s t w job is = let p = accepted_take s w job (accepted s t (Take w job) is) in (p.free, p.ready, sym (next_is s t (Take w job) is) ∙ p.next)

pub put_says : (s t : CoreState) (w : ℕ) (job : JobId) → core_step s (Put w job) ≡ Ok t → (is_out s w ≡ false) × (state_of s job ≡ Some (Held w)) × (t ≡ with_job s job Done)
put_says s t w job is = let p = accepted_put s w job (accepted s t (Put w job) is) in (p.known, p.held, sym (next_is s t (Put w job) is) ∙ p.next)

pub retire_says : (s t : CoreState) (w : ℕ) → core_step s (Retire w) ≡ Ok t → (is_out s w ≡ false) × (t ≡ without_worker s w)
retire_says s t w is = let p = accepted_retire s w (accepted s t (Retire w) is) in (p.known, sym (next_is s t (Retire w) is) ∙ p.next)
