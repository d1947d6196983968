-- Who holds a job is the same by the events and by the state.
use Rattle.std.proofs.Common.{◌≡◌, ℕ, Bool, true, false, not, ◌&&◌, ◌||◌, List, [], ◌∷◌, Option, Some, None, refl, sym, ap, ◌∙◌, arith}
use Rattle.std.specs.Prelude.{◌==◌}
use Rattle.std.specs.Option.{option_map}
use Rattle.std.proofs.lemmas.Bool.Decides.{nat_tests}
use Rattle.job_core.specs.declared.job.JobId.{JobId}
use Rattle.job_core.specs.declared.job.JobState.{JobState}
use Rattle.job_core.specs.declared.job.JobState.TheVariants.{Free, Held, Done}
use Rattle.job_core.specs.declared.job.Event.{Event}
use Rattle.job_core.specs.declared.job.Event.TheVariants.{Take, Put, Retire}
use Rattle.job_core.specs.Jobs.{CoreState, freed, is_held_by, opening, state_of, with_job}
use Rattle.job_core.specs.Step.{job_is}
use Rattle.job_core.specs.Events.{holds, holds_from, holds_next, is_accepted, is_legal, next_state, replay, same_job}
use Rattle.job_core.proofs.OneJobChanges.{fresh_job, same_job-is, state_of-other, state_of-same}
use Rattle.job_core.proofs.AcceptedEvents.{accepted_take, accepted_put, accepted_retire, held_at}
use Rattle.job_core.proofs.LegalLists.{legal_parts, state_of-retire}

-- whether a worker holds a job in a state
abbrev pub holds_in : CoreState → ℕ → JobId → Bool
holds_in s w job = job_is (is_held_by w) (state_of s job)

taken_same : (b : Bool) → (false || (b && true)) ≡ b
taken_same true = refl
taken_same false = refl

taken_other : (a b : Bool) → (a || (b && false)) ≡ a
taken_other true true = refl
taken_other true false = refl
taken_other false true = refl
taken_other false false = refl

put_same : (b : Bool) → (b && not (b && true)) ≡ false
put_same true = refl
put_same false = refl

put_other : (a b : Bool) → (a && not (b && false)) ≡ a
put_other true true = refl
put_other true false = refl
put_other false true = refl
put_other false false = refl

-- one job goes from x to y
take_next : (s : CoreState) (v w : ℕ) (other job : JobId) (b : Bool) → same_job job other ≡ b → state_of s other ≡ Some Free
    → (holds_in s w job || ((v == w) && b)) ≡ holds_in (with_job s other (Held v)) w job
take_next s v w other job true is free =
    let same = same_job-is job other is in
    let before : holds_in s w job ≡ false = ap (λ (j : JobId). holds_in s w j) same ∙ ap (job_is (is_held_by w)) free in
    let now : holds_in (with_job s other (Held v)) w job ≡ (v == w) = ap (λ (j : JobId). holds_in (with_job s other (Held v)) w j) same ∙ ap (job_is (is_held_by w)) (state_of-same s other Free (Held v) free) in
    ap (λ (a : Bool). a || ((v == w) && true)) before ∙ taken_same (v == w) ∙ sym now
take_next s v w other job false is free =
    taken_other (holds_in s w job) (v == w) ∙ ap (job_is (is_held_by w)) (sym (state_of-other s other job (Held v) is))

put_next : (s : CoreState) (v w : ℕ) (other job : JobId) (b : Bool) → same_job job other ≡ b → state_of s other ≡ Some (Held v)
    → (holds_in s w job && not ((v == w) && b)) ≡ holds_in (with_job s other Done) w job
put_next s v w other job true is held =
    let same = same_job-is job other is in
    let before : holds_in s w job ≡ (v == w) = ap (λ (j : JobId). holds_in s w j) same ∙ ap (job_is (is_held_by w)) held in
    let now : holds_in (with_job s other Done) w job ≡ false = ap (λ (j : JobId). holds_in (with_job s other Done) w j) same ∙ ap (job_is (is_held_by w)) (state_of-same s other (Held v) Done held) in
    ap (λ (a : Bool). a && not ((v == w) && true)) before ∙ put_same (v == w) ∙ sym now
put_next s v w other job false is held =
    put_other (holds_in s w job) (v == w) ∙ ap (job_is (is_held_by w)) (sym (state_of-other s other job Done is))

retire_next : (v w : ℕ) (o : Option JobState) → (job_is (is_held_by w) o && not (v == w)) ≡ job_is (is_held_by w) (option_map (freed v) o)
retire_next v w None = refl
retire_next v w (Some Free) = refl
retire_next v w (Some (Held u)) = grind (arith, nat_tests)
retire_next v w (Some Done) = refl

next_holds : (s : CoreState) (e : Event) (w : ℕ) (job : JobId) → is_accepted s e ≡ true → holds_next w job e (holds_in s w job) ≡ holds_in (next_state s e) w job
next_holds s (Take v other) w job h =
    let t = accepted_take s v other h in
    take_next s v w other job (same_job job other) refl t.free ∙ ap (λ (u : CoreState). holds_in u w job) (sym t.next)
next_holds s (Put v other) w job h =
    let t = accepted_put s v other h in
    put_next s v w other job (same_job job other) refl t.held ∙ ap (λ (u : CoreState). holds_in u w job) (sym t.next)
next_holds s (Retire v) w job h =
    let t = accepted_retire s v h in
    retire_next v w (state_of s job) ∙ (ap (job_is (is_held_by w)) (sym (state_of-retire s v job)) ∙ ap (λ (u : CoreState). holds_in u w job) (sym t.next))

run_holds : (s : CoreState) (es : List Event) (w : ℕ) (job : JobId) (before : Bool) → is_legal s es ≡ true → before ≡ holds_in s w job → holds_from before es w job ≡ holds_in (replay s es) w job
run_holds s [] w job before h is = is
run_holds s (e ∷ es) w job before h is =
    let p = legal_parts s e es h in
    run_holds (next_state s e) es w job (holds_next w job e before) p.1 (ap (holds_next w job e) is ∙ next_holds s e w job p.0)

pub held_in_state : (workers pages : ℕ) (needs : List (List ℕ)) (es : List Event) → is_legal (opening workers pages needs) es ≡ true
    → (w : ℕ) (job : JobId) → holds es w job ≡ holds_in (replay (opening workers pages needs) es) w job
held_in_state workers pages needs es h w job = run_holds (opening workers pages needs) es w job false h (sym (fresh_job (job_is (is_held_by w)) false refl refl workers pages needs job))

pub one_holder : (workers pages : ℕ) (needs : List (List ℕ)) (es : List Event) → is_legal (opening workers pages needs) es ≡ true
    → (v w : ℕ) (job : JobId) → holds es v job ≡ true → holds es w job ≡ true → v ≡ w
one_holder workers pages needs es h v w job a b =
    let s = replay (opening workers pages needs) es in
    let c = held_at v (state_of s job) (sym (held_in_state workers pages needs es h v job) ∙ a) in
    let d = held_at w (state_of s job) (sym (held_in_state workers pages needs es h w job) ∙ b) in
    same_holder v w (sym c ∙ d)
  where
    same_holder : (i j : ℕ) → Some (Held i) ≡ Some (Held j) → i ≡ j
    same_holder i j e = cc
