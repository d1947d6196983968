-- Pages done stay done, so a launch that was given is ready from then on.
use Rattle.std.proofs.Common.{◌≡◌, ℕ, ◌+◌, Bool, true, false, not, eqb, List, [], ◌∷◌, ◌++◌, length, get_or, set, map, Option, Some, None, refl, sym, ap, ◌∙◌, subst, arith, inl, inr}
use Rattle.std.specs.Prelude.{◌⊎◌, unwrap_or}
use Rattle.std.specs.List.{slice_get, list_all}
use Rattle.std.specs.Option.{option_map}
use Rattle.std.proofs.lemmas.Bool.{and_parts, and_from}
use Rattle.std.proofs.lemmas.Option.{slice_get-map, unwrap_or-slice_get}
use Rattle.std.proofs.lemmas.Bool.Decides.{nat_tests}
use Rattle.job_core.specs.declared.job.JobId.{JobId}
use Rattle.job_core.specs.declared.job.JobId.TheVariants.{Page, Launch}
use Rattle.job_core.specs.declared.job.JobState.{JobState}
use Rattle.job_core.specs.declared.job.JobState.TheVariants.{Free, Held, Done}
use Rattle.job_core.specs.declared.job.Event.{Event}
use Rattle.job_core.specs.declared.job.Event.TheVariants.{Take, Put, Retire}
use Rattle.job_core.specs.Jobs.{CoreState, is_free, is_done, state_of, with_job, is_ready, is_page_done, freed, opening}
use Rattle.job_core.specs.Events.{next_state, is_accepted, replay, is_legal}
use Rattle.job_core.proofs.CountsOfJobs.{bit}
use Rattle.job_core.proofs.AcceptedEvents.{accepted_take, accepted_put, accepted_retire}
use Rattle.job_core.proofs.OneJobChanges.{fresh, slice_get-set_other}
use Rattle.job_core.proofs.LegalLists.{done_at, is_put_of, legal_parts, needs_next, needs_run, put_next}

-- whether a launch is there and is held or done
abbrev pub is_given : Option JobState → Bool
is_given None = false
is_given (Some x) = not (is_free x)

-- a launch that is held or done is ready
abbrev pub GivenAreReady : CoreState → Type 0
GivenAreReady s = (l : ℕ) → is_given (slice_get s.launches l) ≡ true → is_ready s (Launch l) ≡ true

-- the two readings of "done"
done_or : (o : Option JobState) → bit (is_done (unwrap_or o Free)) ≡ done_at o
done_or None = refl
done_or (Some x) = refl

pub done_is : (xs : List JobState) (p : ℕ) → bit (is_page_done xs p) ≡ done_at (slice_get xs p)
done_is xs p = ap (λ x. bit (is_done x)) (sym (unwrap_or-slice_get xs p Free)) ∙ done_or (slice_get xs p)

-- what an event makes of a page's being done
pub page_done_next : (s : CoreState) (e : Event) (p : ℕ) → is_accepted s e ≡ true → bit (is_page_done (next_state s e).pages p) ≡ bit (is_page_done s.pages p) + bit (is_put_of (Page p) e)
page_done_next s e p h = omega (arith, put_next s e (Page p) h, done_is s.pages p, done_is (next_state s e).pages p)

bit_up : (a b : Bool) (n : ℕ) → bit b ≡ bit a + n → a ≡ true → b ≡ true
bit_up a true n up is = refl
bit_up a false n up is = let one : bit a ≡ 1 = ap bit is in absurd (omega (arith, up, one))

pub stays_done : (s : CoreState) (e : Event) (p : ℕ) → is_accepted s e ≡ true → is_page_done s.pages p ≡ true → is_page_done (next_state s e).pages p ≡ true
stays_done s e p h is = bit_up (is_page_done s.pages p) (is_page_done (next_state s e).pages p) (bit (is_put_of (Page p) e)) (page_done_next s e p h) is

all_stay : (xs ys : List JobState) (ps : List ℕ) → ((p : ℕ) → is_page_done xs p ≡ true → is_page_done ys p ≡ true) → list_all (is_page_done xs) ps ≡ true → list_all (is_page_done ys) ps ≡ true
all_stay xs ys [] more all = refl
all_stay xs ys (p ∷ ps) more all =
    let q = and_parts (is_page_done xs p) (list_all (is_page_done xs) ps) all in
    and_from (is_page_done ys p) (list_all (is_page_done ys) ps) (more p q.0) (all_stay xs ys ps more q.1)

pub ready_stays : (s : CoreState) (e : Event) (l : ℕ) → is_accepted s e ≡ true → is_ready s (Launch l) ≡ true → is_ready (next_state s e) (Launch l) ≡ true
ready_stays s e l h ready =
    let ps = get_or s.needs l [] in
    let all = all_stay s.pages (next_state s e).pages ps (λ p is. stays_done s e p h is) ready in
    subst (λ (needs : List (List ℕ)). list_all (is_page_done (next_state s e).pages) (get_or needs l []) ≡ true) (sym (needs_next s e h)) all

given_freed : (w : ℕ) (o : Option JobState) → is_given (option_map (freed w) o) ≡ true → is_given o ≡ true
given_freed w None g = g
given_freed w (Some Free) g = g
given_freed w (Some (Held v)) g = refl
given_freed w (Some Done) g = refl

-- one launch changes: another was given before
given_set : (xs : List JobState) (k l : ℕ) (y : JobState) (b : Bool) → eqb l k ≡ b → is_given (slice_get (set xs k y) l) ≡ true → (l ≡ k) ⊎ (is_given (slice_get xs l) ≡ true)
given_set xs k l y true is g = let e : l ≡ k = grind (arith, nat_tests) in inl e
given_set xs k l y false is g = inr (sym (ap is_given (slice_get-set_other xs k l y is)) ∙ g)

given-take : (s : CoreState) (w : ℕ) (job : JobId) (l : ℕ) → is_ready s job ≡ true → is_given (slice_get (with_job s job (Held w)).launches l) ≡ true → (is_ready s (Launch l) ≡ true) ⊎ (is_given (slice_get s.launches l) ≡ true)
given-take s w (Page j) l ready g = inr g
given-take s w (Launch k) l ready g = given-take_at (given_set s.launches k l (Held w) (eqb l k) refl g)
  where
    given-take_at : (l ≡ k) ⊎ (is_given (slice_get s.launches l) ≡ true) → (is_ready s (Launch l) ≡ true) ⊎ (is_given (slice_get s.launches l) ≡ true)
    given-take_at (inl same) = inl (ap (λ (n : ℕ). is_ready s (Launch n)) same ∙ ready)
    given-take_at (inr before) = inr before

given-put : (s : CoreState) (w : ℕ) (job : JobId) (l : ℕ) → state_of s job ≡ Some (Held w) → is_given (slice_get (with_job s job Done).launches l) ≡ true → is_given (slice_get s.launches l) ≡ true
given-put s w (Page j) l held g = g
given-put s w (Launch k) l held g = given-put_at (given_set s.launches k l Done (eqb l k) refl g)
  where
    given-put_at : (l ≡ k) ⊎ (is_given (slice_get s.launches l) ≡ true) → is_given (slice_get s.launches l) ≡ true
    given-put_at (inl same) = ap (λ (n : ℕ). is_given (slice_get s.launches n)) same ∙ ap is_given held
    given-put_at (inr before) = before

-- a launch that is given after an event was given before it, or was ready
given_before : (s : CoreState) (e : Event) (l : ℕ) → is_accepted s e ≡ true → is_given (slice_get (next_state s e).launches l) ≡ true → (is_ready s (Launch l) ≡ true) ⊎ (is_given (slice_get s.launches l) ≡ true)
given_before s (Take w job) l h g =
    let t = accepted_take s w job h in
    given-take s w job l t.ready (sym (ap (λ (u : CoreState). is_given (slice_get u.launches l)) t.next) ∙ g)
given_before s (Put w job) l h g =
    let t = accepted_put s w job h in
    inr (given-put s w job l t.held (sym (ap (λ (u : CoreState). is_given (slice_get u.launches l)) t.next) ∙ g))
given_before s (Retire w) l h g =
    let t = accepted_retire s w h in
    let now : is_given (slice_get (map (freed w) s.launches) l) ≡ true = sym (ap (λ (u : CoreState). is_given (slice_get u.launches l)) t.next) ∙ g in
    inr (given_freed w (slice_get s.launches l) (sym (ap is_given (slice_get-map (freed w) s.launches l)) ∙ now))

pub given_next : (s : CoreState) (e : Event) → is_accepted s e ≡ true → GivenAreReady s → GivenAreReady (next_state s e)
given_next s e h before = λ l g. given_next_at l (given_before s e l h g)
  where
    given_next_at : (l : ℕ) → (is_ready s (Launch l) ≡ true) ⊎ (is_given (slice_get s.launches l) ≡ true) → is_ready (next_state s e) (Launch l) ≡ true
    given_next_at l (inl ready) = ready_stays s e l h ready
    given_next_at l (inr given) = ready_stays s e l h (before l given)

pub given_run : (s : CoreState) (es : List Event) → is_legal s es ≡ true → GivenAreReady s → GivenAreReady (replay s es)
given_run s [] h before = before
given_run s (e ∷ es) h before =
    let p = legal_parts s e es h in
    given_run (next_state s e) es p.1 (given_next s e p.0 before)

pub opening_given : (workers pages : ℕ) (needs : List (List ℕ)) → GivenAreReady (opening workers pages needs)
opening_given workers pages needs = λ l g. let none = fresh is_given false refl refl (length needs) l in let e : true ≡ false = sym g ∙ none in cc

pub stay_ready : (workers pages : ℕ) (needs : List (List ℕ)) (es : List Event) → is_legal (opening workers pages needs) es ≡ true → GivenAreReady (replay (opening workers pages needs) es)
stay_ready workers pages needs es h = given_run (opening workers pages needs) es h (opening_given workers pages needs)

-- a list that is legal is legal up to each of its events, which is accepted there
pub legal_at : (s : CoreState) (before after : List Event) (e : Event) → is_legal s (before ++ e ∷ after) ≡ true → (is_accepted (replay s before) e ≡ true) × (is_legal s before ≡ true)
legal_at s [] after e h = ((legal_parts s e after h).0, refl)
legal_at s (x ∷ before) after e h =
    let p = legal_parts s x (before ++ e ∷ after) h in
    let q = legal_at (next_state s x) before after e p.1 in
    (q.0, and_from (is_accepted s x) (is_legal (next_state s x) before) p.0 q.1)

pub none_early : (workers pages : ℕ) (needs : List (List ℕ)) (before after : List Event) (w l : ℕ)
    → is_legal (opening workers pages needs) (before ++ Take w (Launch l) ∷ after) ≡ true
    → list_all (is_page_done (replay (opening workers pages needs) before).pages) (get_or needs l []) ≡ true
none_early workers pages needs before after w l h =
    let s = opening workers pages needs in
    let q = legal_at s before after (Take w (Launch l)) h in
    let ready = (accepted_take (replay s before) w (Launch l) q.0).ready in
    subst (λ (ns : List (List ℕ)). list_all (is_page_done (replay s before).pages) (get_or ns l []) ≡ true) (needs_run s before q.1) ready

pub given_ready : (workers pages : ℕ) (needs : List (List ℕ)) (es : List Event) → is_legal (opening workers pages needs) es ≡ true
    → (l : ℕ) (x : JobState) → slice_get (replay (opening workers pages needs) es).launches l ≡ Some x → (x ≡ Free → ⊥) → is_ready (replay (opening workers pages needs) es) (Launch l) ≡ true
given_ready workers pages needs es h l x at not_free = stay_ready workers pages needs es h l (ap is_given at ∙ is_not_free x not_free)
  where
    is_not_free : (y : JobState) → (y ≡ Free → ⊥) → not (is_free y) ≡ true
    is_not_free Free no_free = absurd (no_free refl)
    is_not_free (Held w) no_free = refl
    is_not_free Done no_free = refl
