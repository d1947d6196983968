-- No state is stuck, and no launch is taken early.
use Rattle.std.proofs.Common.{◌≡◌, ℕ, zero, suc, ◌<◌, ◌≤◌, Bool, true, false, cond, eqb, ◌&&◌, List, [], ◌∷◌, length, get_or, replicate, Option, Some, refl}
use Rattle.std.proofs.Common.{sym, ap, ◌∙◌, subst, arith, inl, inr}
use Rattle.std.specs.Prelude.{◌⊎◌, is_ok, unwrap_or}
use Rattle.std.specs.List.{All, count_by, slice_get, list_all}
use Rattle.std.proofs.lemmas.List.{length-replicate}
use Rattle.std.proofs.lemmas.List.Sums.{AllPass-from_list_all, get_or-le-sum_by, list_all-from_AllPass}
use Rattle.std.proofs.lemmas.Bool.{and_parts, ne_eqb, true≢false}
use Rattle.std.proofs.lemmas.Option.{slice_get_within, get_or_from_slice_get}
use Rattle.std.proofs.lemmas.Bool.Decides.{nat_tests}
use Rattle.job_core.specs.declared.job.JobId.{JobId}
use Rattle.job_core.specs.declared.job.JobId.TheVariants.{Page, Launch}
use Rattle.job_core.specs.declared.job.JobState.{JobState}
use Rattle.job_core.specs.declared.job.JobState.TheVariants.{Free, Held, Done}
use Rattle.job_core.specs.declared.job.Event.{Event}
use Rattle.job_core.specs.declared.job.Event.TheVariants.{Take, Put, Retire}
use Rattle.job_core.specs.Jobs.{CoreState, is_done, is_held_by, state_of, is_out, is_ready, is_page_done, held_count, opening, NeedsWithin, is_over}
use Rattle.job_core.specs.Events.{next_state, is_accepted, replay, is_legal}
use Rattle.job_core.proofs.CountsOfJobs.{bit}
use Rattle.job_core.proofs.AcceptedEvents.{accepted_take, accepted_put, accepted_retire, take_is}
use Rattle.job_core.proofs.OneJobChanges.{slice_get-set_other}
use Rattle.job_core.proofs.LegalLists.{needs_run, size_run}

-- a job that no worker holds is free or done
free_or_done : (xs : List JobState) (j : ℕ) (x : JobState) → slice_get xs j ≡ Some x → ((w : ℕ) → count_by (is_held_by w) xs ≡ 0) → (x ≡ Free) ⊎ (x ≡ Done)
free_or_done xs j Free at none = inl refl
free_or_done xs j Done at none = inr refl
free_or_done xs j (Held v) at none =
    let within = slice_get_within xs j (Held v) at in
    let here = get_or_from_slice_get xs j (Held v) Free at in
    let le = get_or-le-sum_by (λ y. cond (is_held_by v y) 1 0) xs j Free within in
    let self : bit (eqb v v) ≡ 1 = grind (arith, nat_tests) in
    let yes : bit (is_held_by v (get_or xs j Free)) ≡ 1 = ap (λ y. bit (is_held_by v y)) here ∙ self in
    absurd (omega (arith, none v))

-- where not all are done, some job is not
abbrev pub SomeOpen : List JobState → Type 0
SomeOpen xs = (j : ℕ) × (x : JobState) × (slice_get xs j ≡ Some x) × (is_done x ≡ false)

open_later : (x : JobState) (xs : List JobState) → SomeOpen xs → SomeOpen (x ∷ xs)
open_later x xs r = (suc r.0, r.1, r.2, r.3)

open_at : (x : JobState) (xs : List JobState) (b : Bool) → is_done x ≡ b → list_all is_done (x ∷ xs) ≡ false → (list_all is_done xs ≡ false → SomeOpen xs)
    → SomeOpen (x ∷ xs)
open_at x xs false is h more = (0, x, refl, is)
open_at x xs true is h more = open_later x xs (more (sym (ap (λ (b : Bool). b && list_all is_done xs) is) ∙ h))

pub some_open : (xs : List JobState) → list_all is_done xs ≡ false → SomeOpen xs
some_open [] e = absurd (true≢false e)
some_open (x ∷ xs) e = open_at x xs (is_done x) refl e (λ h. some_open xs h)

take_ok : (s : CoreState) (w : ℕ) (job : JobId) → is_out s w ≡ false → held_count s w ≡ 0 → state_of s job ≡ Some Free → is_ready s job ≡ true
    → is_accepted s (Take w job) ≡ true
unfolding is_accepted
take_ok s w job known idle free ready = ap is_ok (take_is s w job known free idle ready)

-- worker 0 is never retired
pub first_next : (s : CoreState) (e : Event) → is_accepted s e ≡ true → slice_get s.retired 0 ≡ Some false → slice_get (next_state s e).retired 0 ≡ Some false
first_next s (Take w job) h at = ap (λ (u : CoreState). slice_get u.retired 0) (accepted_take s w job h).next ∙ at
first_next s (Put w job) h at = ap (λ (u : CoreState). slice_get u.retired 0) (accepted_put s w job h).next ∙ at
first_next s (Retire w) h at =
    let t = accepted_retire s w h in
    let other : eqb 0 w ≡ false = ne_eqb 0 w (λ e. t.other (sym e)) in
    ap (λ (u : CoreState). slice_get u.retired 0) t.next ∙ (slice_get-set_other s.retired w 0 true other ∙ at)

pub first_run : (s : CoreState) (es : List Event) → is_legal s es ≡ true → slice_get s.retired 0 ≡ Some false → slice_get (replay s es).retired 0 ≡ Some false
first_run s [] h at = at
first_run s (e ∷ es) h at =
    let p = and_parts (is_accepted s e) (is_legal (next_state s e) es) h in
    first_run (next_state s e) es p.1 (first_next s e p.0 at)

-- all pages done: any launch is ready
pub ready_list : (xs : List JobState) (ps : List ℕ) → list_all is_done xs ≡ true → All (λ p. p < length xs) ps → list_all (is_page_done xs) ps ≡ true
ready_list xs ps all within = list_all-from_AllPass (is_page_done xs) ps (λ k d lt. AllPass-from_list_all is_done xs all (get_or ps k d) Free (within k d lt))

pub needs_at : (P : ℕ → Type 0) (needs : List (List ℕ)) (l : ℕ) → All (All P) needs → All P (get_or needs l [])
needs_at P [] l h = λ k d lt. absurd (omega (arith, lt))
needs_at P (ps ∷ needs) zero h = h 0 [] (omega arith)
needs_at P (ps ∷ needs) (suc l) h = needs_at P needs l (λ k d lt. h (suc k) d (let lt' : suc k < suc (length needs) = omega arith in lt'))

open_is_free : (x : JobState) → (x ≡ Free) ⊎ (x ≡ Done) → is_done x ≡ false → x ≡ Free
open_is_free x (inl f) no_done = f
open_is_free x (inr d) no_done = let e : true ≡ false = sym (ap is_done d) ∙ no_done in cc

-- a state in which nothing is held
free_now : (s : CoreState) → is_out s 0 ≡ false → ((w : ℕ) → held_count s w ≡ 0) → NeedsWithin s.needs (length s.pages)
    → (a b : Bool) → list_all is_done s.pages ≡ a → list_all is_done s.launches ≡ b → (a && b) ≡ false → (job : JobId) × (is_accepted s (Take 0 job) ≡ true)
free_now s known none within false b pages launches more =
    let o = some_open s.pages pages in
    let none' : (w : ℕ) → count_by (is_held_by w) s.pages ≡ 0 = λ w. let n = none w in omega arith in
    let free = open_is_free o.1 (free_or_done s.pages o.0 o.1 o.2 none') o.3 in
    (Page o.0, take_ok s 0 (Page o.0) known (none 0) (o.2 ∙ ap Some free) refl)
free_now s known none within true false pages launches more =
    let o = some_open s.launches launches in
    let none' : (w : ℕ) → count_by (is_held_by w) s.launches ≡ 0 = λ w. let n = none w in omega arith in
    let free = open_is_free o.1 (free_or_done s.launches o.0 o.1 o.2 none') o.3 in
    let ready = ready_list s.pages (get_or s.needs o.0 []) pages (needs_at (λ p. p < length s.pages) s.needs o.0 within) in
    (Launch o.0, take_ok s 0 (Launch o.0) known (none 0) (o.2 ∙ ap Some free) ready)
free_now s known none within true true pages launches more = cc

pub not_stuck : (workers pages : ℕ) (needs : List (List ℕ)) (es : List Event) → 1 ≤ workers → NeedsWithin needs pages
    → is_legal (opening workers pages needs) es ≡ true
    → ((w : ℕ) → held_count (replay (opening workers pages needs) es) w ≡ 0) → is_over (replay (opening workers pages needs) es) ≡ false
    → (job : JobId) × (is_accepted (replay (opening workers pages needs) es) (Take 0 job) ≡ true)
not_stuck workers pages needs es some within legal none more =
    let s0 = opening workers pages needs in
    let s = replay s0 es in
    let size = size_run s0 es legal in
    let first = first_run s0 es legal (first_open workers some) in
    let known : is_out s 0 ≡ false = ap (λ (o : Option Bool). unwrap_or o true) first in
    let count : pages ≡ length s.pages = sym (size.pages ∙ length-replicate pages Free) in
    let w1 : NeedsWithin needs (length s.pages) = subst (λ (n : ℕ). NeedsWithin needs n) count within in
    let w2 : NeedsWithin s.needs (length s.pages) = subst (λ (ns : List (List ℕ)). NeedsWithin ns (length s.pages)) (sym (needs_run s0 es legal)) w1 in
    free_now s known none w2 (list_all is_done s.pages) (list_all is_done s.launches) refl refl more
  where
    first_open : (n : ℕ) → 1 ≤ n → slice_get (replicate n false) 0 ≡ Some false
    first_open zero le = absurd (omega arith)
    first_open (suc n) le = refl
