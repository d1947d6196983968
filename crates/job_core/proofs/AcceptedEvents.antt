-- What an accepted event says of the state, and what it makes of it.
use Rattle.std.proofs.Common.{◌≡◌, ◌≢◌, ℕ, Bool, true, false, not, cond, ◌||◌, Option, Some, None, Result, Ok, Err, refl, ap, arith}
use Rattle.std.specs.Prelude.{◌==◌, is_ok, is_some, nat_lt}
use Rattle.std.proofs.lemmas.Bool.Decides.{nat_tests}
use Rattle.std.proofs.lemmas.Bool.{false≢true, true≢false, ltb-false, or_parts, eqb-false}
use Rattle.job_core.specs.declared.job.JobId.{JobId}
use Rattle.job_core.specs.declared.job.JobState.{JobState}
use Rattle.job_core.specs.declared.job.JobState.TheVariants.{Free, Held, Done}
use Rattle.job_core.specs.declared.job.Event.TheVariants.{Take, Put, Retire}
use Rattle.job_core.specs.declared.job.CoreFault.TheVariants.{Retired, NoSuchJob, Stranger, Busy, Taken, Early}
use Rattle.job_core.specs.Jobs.{CoreState, is_free, is_held_by, state_of, with_job, is_out, is_ready, held_count, without_worker}
use Rattle.job_core.specs.Step.{job_is, core_step}
use Rattle.job_core.specs.Events.{after, next_state, is_accepted}
use Rattle.job_core.proofs.OneJobChanges.{held_is}

-- an `Ok` after a check
pub passed : {A E : Type 0} (b : Bool) (f : E) (r : Result A E) → is_ok (cond b (Err f) r) ≡ true → (b ≡ false) × (is_ok r ≡ true)
passed true f r h = absurd (false≢true h)
passed false f r h = (refl, h)

is_so : (b : Bool) → not b ≡ false → b ≡ true
is_so true h = refl
is_so false h = absurd (true≢false h)

free_at : (o : Option JobState) → job_is is_free o ≡ true → o ≡ Some Free
free_at None h = absurd (false≢true h)
free_at (Some Free) h = refl
free_at (Some (Held w)) h = absurd (false≢true h)
free_at (Some Done) h = absurd (false≢true h)

pub held_at : (w : ℕ) (o : Option JobState) → job_is (is_held_by w) o ≡ true → o ≡ Some (Held w)
held_at w None h = absurd (false≢true h)
held_at w (Some x) h = ap Some (held_is w x h)

-- what an accepted take says
pub record Takes (s : CoreState) (w : ℕ) (job : JobId) : Type 0 where
  pub known : is_out s w ≡ false
  pub free : state_of s job ≡ Some Free
  pub idle : held_count s w ≡ 0
  pub ready : is_ready s job ≡ true
  pub next : next_state s (Take w job) ≡ with_job s job (Held w)

pub record Puts (s : CoreState) (w : ℕ) (job : JobId) : Type 0 where
  pub known : is_out s w ≡ false
  pub held : state_of s job ≡ Some (Held w)
  pub next : next_state s (Put w job) ≡ with_job s job Done

pub record Retires (s : CoreState) (w : ℕ) : Type 0 where
  pub known : is_out s w ≡ false
  pub other : w ≢ 0
  pub next : next_state s (Retire w) ≡ without_worker s w

-- such events are accepted
pub take_is : (s : CoreState) (w : ℕ) (job : JobId) → is_out s w ≡ false → state_of s job ≡ Some Free → held_count s w ≡ 0 → is_ready s job ≡ true → core_step s (Take w job) ≡ Ok (with_job s job (Held w))
take_is s w job known free idle ready = rw (known, free, idle, ready) refl

pub put_is : (s : CoreState) (w : ℕ) (job : JobId) → is_out s w ≡ false → state_of s job ≡ Some (Held w) → core_step s (Put w job) ≡ Ok (with_job s job Done)
put_is s w job known held = let self : is_held_by w (Held w) ≡ true = grind (arith, nat_tests) in rw (known, held, self) refl

pub accepted_take : (s : CoreState) (w : ℕ) (job : JobId) → is_accepted s (Take w job) ≡ true → Takes s w job
unfolding is_accepted next_state
accepted_take s w job h =
    let a = passed (is_out s w) Retired _ h in
    let b = passed (not (is_some (state_of s job))) NoSuchJob _ a.1 in
    let c = passed (nat_lt 0 (held_count s w)) Busy _ b.1 in
    let d = passed (not (job_is is_free (state_of s job))) Taken _ c.1 in
    let e = passed (not (is_ready s job)) Early _ d.1 in
    let none = ltb-false 0 (held_count s w) c.0 in
    let free = free_at (state_of s job) (is_so (job_is is_free (state_of s job)) d.0) in
    let idle : held_count s w ≡ 0 = omega arith in
    let ready = is_so (is_ready s job) e.0 in
    record { known = a.0; free = free; idle = idle; ready = ready; next = ap (after s) (take_is s w job a.0 free idle ready) }

pub accepted_put : (s : CoreState) (w : ℕ) (job : JobId) → is_accepted s (Put w job) ≡ true → Puts s w job
unfolding is_accepted next_state
accepted_put s w job h =
    let a = passed (is_out s w) Retired _ h in
    let b = passed (not (is_some (state_of s job))) NoSuchJob _ a.1 in
    let c = passed (not (job_is (is_held_by w) (state_of s job))) Stranger _ b.1 in
    let held = held_at w (state_of s job) (is_so (job_is (is_held_by w) (state_of s job)) c.0) in
    record { known = a.0; held = held; next = ap (after s) (put_is s w job a.0 held) }

pub accepted_retire : (s : CoreState) (w : ℕ) → is_accepted s (Retire w) ≡ true → Retires s w
unfolding is_accepted next_state
accepted_retire s w h =
    let a = passed ((w == 0) || is_out s w) Retired _ h in
    let b = or_parts (w == 0) (is_out s w) a.0 in
    let is : core_step s (Retire w) ≡ Ok (without_worker s w) = rw a.0 refl in
    record { known = b.1; other = eqb-false w 0 b.0; next = ap (after s) is }
