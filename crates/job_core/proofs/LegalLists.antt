-- What each accepted event keeps, and what follows for every legal list.
use Rattle.std.proofs.Common.{◌≡◌, ℕ, zero, ◌+◌, ◌*◌, ◌≤◌, Bool, true, false, cond, eqb, List, [], ◌∷◌, length, set, Option, Some, None, refl, sym, ap, ◌∙◌, subst, arith}
use Rattle.std.specs.List.{sum_by, count_by, range_with_len, slice_get}
use Rattle.std.specs.Option.{option_map}
use Rattle.std.proofs.lemmas.List.{length-set, length-map, length-replicate}
use Rattle.std.proofs.lemmas.List.Sums.{sum_by-cons}
use Rattle.std.proofs.lemmas.Bool.{and_parts}
use Rattle.std.proofs.lemmas.Option.{slice_get-map, slice_get_within}
use Rattle.std.proofs.lemmas.Bool.Decides.{nat_tests}
use Rattle.job_core.specs.declared.job.JobId.{JobId}
use Rattle.job_core.specs.declared.job.JobId.TheVariants.{Page, Launch}
use Rattle.job_core.specs.declared.job.JobState.{JobState}
use Rattle.job_core.specs.declared.job.JobState.TheVariants.{Free, Held, Done}
use Rattle.job_core.specs.declared.job.Event.{Event}
use Rattle.job_core.specs.declared.job.Event.TheVariants.{Take, Put, Retire}
use Rattle.job_core.specs.Jobs.{CoreState, is_done, is_held_by, state_of, with_job, held_count, freed, without_worker, opening, pages_done}
use Rattle.job_core.specs.Events.{jobs_put, next_state, is_accepted, replay, is_legal, same_job, is_page_put_by, puts}
use Rattle.job_core.proofs.CountsOfJobs.{bit, total, weight, total-with_job, sum_by-slice_set, sum-freed_weight, sum-freed_done, sum-freed_held, sum-weight_le, sum_by-replicate_zero, sum_by-zero, one_below}
use Rattle.job_core.proofs.OneJobChanges.{not_out, same_job-is, state_of-other, state_of-same}
use Rattle.job_core.proofs.AcceptedEvents.{Takes, Puts, accepted_take, accepted_put, accepted_retire}

-- a put of this job, by any worker
abbrev pub is_put_of : JobId → Event → Bool
is_put_of job (Take v other) = false
is_put_of job (Put v other) = same_job job other
is_put_of job (Retire v) = false

-- how often a job was put
abbrev pub puts_of : List Event → JobId → ℕ
puts_of es job = count_by (is_put_of job) es

pub puts_are : (es : List Event) (job : JobId) → puts_of es job ≡ count_by (same_job job) (jobs_put es)
puts_are [] job = refl
puts_are (Take w j ∷ es) job = omega (arith, puts_are es job, sum_by-cons (λ x. cond (is_put_of job x) 1 0) (Take w j) es)
puts_are (Put w j ∷ es) job = omega (arith, puts_are es job, sum_by-cons (λ x. cond (is_put_of job x) 1 0) (Put w j) es, sum_by-cons (λ x. cond (same_job job x) 1 0) j (jobs_put es))
puts_are (Retire w ∷ es) job = omega (arith, puts_are es job, sum_by-cons (λ x. cond (is_put_of job x) 1 0) (Retire w) es)

-- one event more at the front
pub legal_parts : (s : CoreState) (e : Event) (es : List Event) → is_legal s (e ∷ es) ≡ true → (is_accepted s e ≡ true) × (is_legal (next_state s e) es ≡ true)
legal_parts s e es h = and_parts (is_accepted s e) (is_legal (next_state s e) es) h

-- the numbers of workers and jobs never change
pub record SameSize (s t : CoreState) : Type 0 where
  pub workers : length t.retired ≡ length s.retired
  pub pages : length t.pages ≡ length s.pages
  pub launches : length t.launches ≡ length s.launches

size-with_job : (s : CoreState) (job : JobId) (x : JobState) → SameSize s (with_job s job x)
size-with_job s (Page j) x = record { workers = refl; pages = length-set s.pages j x; launches = refl }
size-with_job s (Launch l) x = record { workers = refl; pages = refl; launches = length-set s.launches l x }

size-retire : (s : CoreState) (w : ℕ) → SameSize s (without_worker s w)
size-retire s w = record { workers = length-set s.retired w true; pages = length-map s.pages (freed w); launches = length-map s.launches (freed w) }

pub size_next : (s : CoreState) (e : Event) → is_accepted s e ≡ true → SameSize s (next_state s e)
size_next s (Take w job) h = subst (SameSize s) (sym (accepted_take s w job h).next) (size-with_job s job (Held w))
size_next s (Put w job) h = subst (SameSize s) (sym (accepted_put s w job h).next) (size-with_job s job Done)
size_next s (Retire w) h = subst (SameSize s) (sym (accepted_retire s w h).next) (size-retire s w)

pub size_run : (s : CoreState) (es : List Event) → is_legal s es ≡ true → SameSize s (replay s es)
size_run s [] h = record { workers = refl; pages = refl; launches = refl }
size_run s (e ∷ es) h =
    let p = legal_parts s e es h in
    let a = size_next s e p.0 in
    let b = size_run (next_state s e) es p.1 in
    record { workers = b.workers ∙ a.workers; pages = b.pages ∙ a.pages; launches = b.launches ∙ a.launches }

-- the needs of launches never change
pub needs_next : (s : CoreState) (e : Event) → is_accepted s e ≡ true → (next_state s e).needs ≡ s.needs
needs_next s (Take w job) h = ap (λ (u : CoreState). u.needs) (accepted_take s w job h).next
needs_next s (Put w job) h = ap (λ (u : CoreState). u.needs) (accepted_put s w job h).next
needs_next s (Retire w) h = ap (λ (u : CoreState). u.needs) (accepted_retire s w h).next

pub needs_run : (s : CoreState) (es : List Event) → is_legal s es ≡ true → (replay s es).needs ≡ s.needs
needs_run s [] h = refl
needs_run s (e ∷ es) h =
    let p = legal_parts s e es h in
    needs_run (next_state s e) es p.1 ∙ needs_next s e p.0

-- each worker holds at most one job
pub record HoldsOne (s : CoreState) : Type 0 where
  pub one : (w : ℕ) → held_count s w ≤ 1

held-take : (s : CoreState) (w : ℕ) (job : JobId) → Takes s w job → HoldsOne s → HoldsOne (with_job s job (Held w))
held-take s w job t h = record {
  one = λ v.
      let count = total-with_job (λ x. cond (is_held_by v x) 1 0) s job Free (Held w) t.free in
      let one = h.one v in
      let idle = t.idle in
      held-take_at v (eqb w v) refl count one;
}
  where
    held-take_at : (v : ℕ) (b : Bool) → eqb w v ≡ b
        → held_count (with_job s job (Held w)) v + 0 ≡ held_count s v + bit (eqb w v)
        → held_count s v ≤ 1
        → held_count (with_job s job (Held w)) v ≤ 1
    held-take_at v true is count one =
        let same : w ≡ v = grind (arith, nat_tests) in
        let none : held_count s v ≡ 0 = subst (λ (u : ℕ). held_count s u ≡ 0) same t.idle in
        omega (arith, count, none, ap bit is)
    held-take_at v false is count one = omega (arith, count, one, ap bit is)

held-put : (s : CoreState) (w : ℕ) (job : JobId) → Puts s w job → HoldsOne s → HoldsOne (with_job s job Done)
held-put s w job t h = record {
  one = λ v.
      let count = total-with_job (λ x. cond (is_held_by v x) 1 0) s job (Held w) Done t.held in
      let one = h.one v in
      omega (arith, count, one);
}

held-retire : (s : CoreState) (w : ℕ) → HoldsOne s → HoldsOne (without_worker s w)
held-retire s w h = record { one = λ v. omega (arith, sum-freed_held w v s.pages, sum-freed_held w v s.launches, h.one v) }

pub held_next : (s : CoreState) (e : Event) → is_accepted s e ≡ true → HoldsOne s → HoldsOne (next_state s e)
held_next s (Take w job) h one = let t = accepted_take s w job h in subst HoldsOne (sym t.next) (held-take s w job t one)
held_next s (Put w job) h one = let t = accepted_put s w job h in subst HoldsOne (sym t.next) (held-put s w job t one)
held_next s (Retire w) h one = let t = accepted_retire s w h in subst HoldsOne (sym t.next) (held-retire s w one)

-- how far the run is: each event goes on by one at least
abbrev pub retired_count : List Bool → ℕ
retired_count bs = count_by (λ (b : Bool). b) bs

unfoldable pub progress : CoreState → ℕ
progress s = total weight s + 2 * retired_count s.retired

progress-with_job : (s : CoreState) (job : JobId) (x y : JobState) → state_of s job ≡ Some x → progress (with_job s job y) + weight x ≡ progress s + weight y
unfolding progress
progress-with_job s (Page j) x y at = omega (arith, total-with_job weight s (Page j) x y at)
progress-with_job s (Launch l) x y at = omega (arith, total-with_job weight s (Launch l) x y at)

progress-retire : (s : CoreState) (w : ℕ) → slice_get s.retired w ≡ Some false → HoldsOne s → progress s + 1 ≤ progress (without_worker s w)
unfolding progress
progress-retire s w at one =
    let count : retired_count (set s.retired w true) + 0 ≡ retired_count s.retired + 1 = sum_by-slice_set (λ (b : Bool). bit b) s.retired w false true at in
    omega (arith, count, sum-freed_weight w s.pages, sum-freed_weight w s.launches, one.one w)

grows : (s : CoreState) (e : Event) → is_accepted s e ≡ true → HoldsOne s → progress s + 1 ≤ progress (next_state s e)
grows s (Take w job) h one =
    let t = accepted_take s w job h in
    omega (arith, progress-with_job s job Free (Held w) t.free, ap progress t.next)
grows s (Put w job) h one =
    let t = accepted_put s w job h in
    omega (arith, progress-with_job s job (Held w) Done t.held, ap progress t.next)
grows s (Retire w) h one =
    let t = accepted_retire s w h in
    omega (arith, progress-retire s w (not_out s w t.known) one, ap progress t.next)

progress-run : (s : CoreState) (es : List Event) → is_legal s es ≡ true → HoldsOne s → progress s + length es ≤ progress (replay s es)
progress-run s [] h one = omega arith
progress-run s (e ∷ es) h one =
    let p = legal_parts s e es h in
    omega (arith, grows s e p.0 one, progress-run (next_state s e) es p.1 (held_next s e p.0 one))

retired-le : (bs : List Bool) → retired_count bs ≤ length bs
retired-le [] = omega arith
retired-le (true ∷ bs) = omega (arith, retired-le bs, sum_by-cons (λ (b : Bool). bit b) true bs)
retired-le (false ∷ bs) = omega (arith, retired-le bs, sum_by-cons (λ (b : Bool). bit b) false bs)

progress-le : (s : CoreState) → progress s ≤ 2 * (length s.pages + length s.launches) + 2 * length s.retired
unfolding progress
progress-le s = omega (arith, sum-weight_le s.pages, sum-weight_le s.launches, retired-le s.retired)

pub opening_holds : (workers pages : ℕ) (needs : List (List ℕ)) → HoldsOne (opening workers pages needs)
opening_holds workers pages needs = record {
  one = λ w. omega (arith, sum_by-replicate_zero (λ x. cond (is_held_by w x) 1 0) pages Free refl, sum_by-replicate_zero (λ x. cond (is_held_by w x) 1 0) (length needs) Free refl);
}

pub few_events : (workers pages : ℕ) (needs : List (List ℕ)) (es : List Event) → is_legal (opening workers pages needs) es ≡ true → length es ≤ 2 * (pages + length needs) + 2 * workers
few_events workers pages needs es h =
    let s = opening workers pages needs in
    let run = progress-run s es h (opening_holds workers pages needs) in
    let top = progress-le (replay s es) in
    let size = size_run s es h in
    omega (arith, run, top, size.workers, size.pages, size.launches, length-replicate workers false, length-replicate pages Free, length-replicate (length needs) Free)

-- the puts of pages, by whom ever
abbrev pub is_page_put : Event → Bool
is_page_put (Take v job) = false
is_page_put (Put v (Page j)) = true
is_page_put (Put v (Launch l)) = false
is_page_put (Retire v) = false

done-take : (s : CoreState) (w : ℕ) (job : JobId) → Takes s w job → pages_done (with_job s job (Held w)) ≡ pages_done s
done-take s w (Page j) t = omega (arith, sum_by-slice_set (λ x. cond (is_done x) 1 0) s.pages j Free (Held w) t.free)
done-take s w (Launch l) t = refl

done-put : (s : CoreState) (w : ℕ) (job : JobId) → Puts s w job → pages_done (with_job s job Done) ≡ pages_done s + bit (is_page_put (Put w job))
done-put s w (Page j) t = omega (arith, sum_by-slice_set (λ x. cond (is_done x) 1 0) s.pages j (Held w) Done t.held)
done-put s w (Launch l) t = omega arith

pub done_next : (s : CoreState) (e : Event) → is_accepted s e ≡ true → pages_done (next_state s e) ≡ pages_done s + bit (is_page_put e)
done_next s (Take w job) h = let t = accepted_take s w job h in omega (arith, ap pages_done t.next, done-take s w job t)
done_next s (Put w job) h = let t = accepted_put s w job h in ap pages_done t.next ∙ done-put s w job t
done_next s (Retire w) h = let t = accepted_retire s w h in omega (arith, ap pages_done t.next, sum-freed_done w s.pages)

done_run : (s : CoreState) (es : List Event) → is_legal s es ≡ true → pages_done (replay s es) ≡ pages_done s + count_by is_page_put es
done_run s [] h = omega arith
done_run s (e ∷ es) h =
    let p = legal_parts s e es h in
    omega (arith, done_next s e p.0, done_run (next_state s e) es p.1, sum_by-cons (λ x. cond (is_page_put x) 1 0) e es)

-- each put of a page is one of the workers'
one_putter : (s : CoreState) (e : Event) → is_accepted s e ≡ true → sum_by (λ w. bit (is_page_put_by w e)) (range_with_len 0 (length s.retired)) ≡ bit (is_page_put e)
one_putter s (Take w job) h = sum_by-zero (range_with_len 0 (length s.retired))
one_putter s (Put v (Page j)) h =
    let t = accepted_put s v (Page j) h in
    one_below v (length s.retired) (slice_get_within s.retired v false (not_out s v t.known))
one_putter s (Put v (Launch l)) h = sum_by-zero (range_with_len 0 (length s.retired))
one_putter s (Retire w) h = sum_by-zero (range_with_len 0 (length s.retired))

-- with one event more at the front
puts-cons : (e : Event) (es : List Event) (ws : List ℕ) → sum_by (puts (e ∷ es)) ws ≡ sum_by (λ w. bit (is_page_put_by w e)) ws + sum_by (puts es) ws
puts-cons e es [] = refl
puts-cons e es (w ∷ ws) =
    omega (arith, puts-cons e es ws, sum_by-cons (puts (e ∷ es)) w ws, sum_by-cons (λ v. bit (is_page_put_by v e)) w ws, sum_by-cons (puts es) w ws, sum_by-cons (λ x. cond (is_page_put_by w x) 1 0) e es)

all_putters : (s : CoreState) (es : List Event) → is_legal s es ≡ true → sum_by (puts es) (range_with_len 0 (length s.retired)) ≡ count_by is_page_put es
all_putters s [] h = sum_by-zero (range_with_len 0 (length s.retired))
all_putters s (e ∷ es) h =
    let p = legal_parts s e es h in
    let size = (size_next s e p.0).workers in
    let rest : sum_by (puts es) (range_with_len 0 (length s.retired)) ≡ count_by is_page_put es =
    subst (λ (n : ℕ). sum_by (puts es) (range_with_len 0 n) ≡ count_by is_page_put es) size (all_putters (next_state s e) es p.1) in
    omega (arith, rest, one_putter s e p.0, puts-cons e es (range_with_len 0 (length s.retired)), sum_by-cons (λ x. cond (is_page_put x) 1 0) e es)

pub puts_add_up : (workers pages : ℕ) (needs : List (List ℕ)) (es : List Event) → is_legal (opening workers pages needs) es ≡ true → pages_done (replay (opening workers pages needs) es) ≡ sum_by (puts es) (range_with_len 0 workers)
puts_add_up workers pages needs es h =
    let s = opening workers pages needs in
    let none = sum_by-replicate_zero (λ x. cond (is_done x) 1 0) pages Free refl in
    let all = all_putters s es h in
    let all' : sum_by (puts es) (range_with_len 0 workers) ≡ count_by is_page_put es =
    subst (λ (n : ℕ). sum_by (puts es) (range_with_len 0 n) ≡ count_by is_page_put es) (length-replicate workers false) all in
    omega (arith, done_run s es h, none, all')

-- whether a job is done, as a number
abbrev pub done_at : Option JobState → ℕ
done_at None = 0
done_at (Some x) = bit (is_done x)

pub done_at-le : (o : Option JobState) → done_at o ≤ 1
done_at-le None = omega arith
done_at-le (Some Free) = omega arith
done_at-le (Some (Held w)) = omega arith
done_at-le (Some Done) = omega arith

pub state_of-retire : (s : CoreState) (w : ℕ) (job : JobId) → state_of (without_worker s w) job ≡ option_map (freed w) (state_of s job)
state_of-retire s w (Page j) = slice_get-map (freed w) s.pages j
state_of-retire s w (Launch l) = slice_get-map (freed w) s.launches l

done-freed : (w : ℕ) (o : Option JobState) → done_at (option_map (freed w) o) ≡ done_at o
done-freed w None = refl
done-freed w (Some Free) = refl
done-freed w (Some (Held v)) = grind (arith, nat_tests)
done-freed w (Some Done) = refl

with_done : (s : CoreState) (job other : JobId) (x y : JobState) (b : Bool) → same_job other job ≡ b → state_of s job ≡ Some x → is_done x ≡ false
    → done_at (state_of (with_job s job y) other) ≡ done_at (state_of s other) + cond b (bit (is_done y)) 0
with_done s job other x y true same at not_done =
    let is = same_job-is other job same in
    let now = ap done_at (state_of-same s job x y at) in
    let before = ap done_at at in
    let now' : done_at (state_of (with_job s job y) other) ≡ bit (is_done y) = subst (λ (o : JobId). done_at (state_of (with_job s job y) o) ≡ bit (is_done y)) (sym is) now in
    let before' : done_at (state_of s other) ≡ bit (is_done x) = subst (λ (o : JobId). done_at (state_of s o) ≡ bit (is_done x)) (sym is) before in
    omega (arith, now', before', ap bit not_done)
with_done s job other x y false same at not_done = omega (arith, ap done_at (state_of-other s job other y same))

no_bit : (b : Bool) → cond b 0 0 ≡ zero
no_bit true = refl
no_bit false = refl

pub put_next : (s : CoreState) (e : Event) (job : JobId) → is_accepted s e ≡ true → done_at (state_of (next_state s e) job) ≡ done_at (state_of s job) + bit (is_put_of job e)
put_next s (Take w j) job h =
    let t = accepted_take s w j h in
    let e = ap (λ (u : CoreState). done_at (state_of u job)) t.next in
    let f = with_done s j job Free (Held w) (same_job job j) refl t.free refl in
    let none = no_bit (same_job job j) in
    omega (arith, e, f, none)
put_next s (Put w j) job h =
    let t = accepted_put s w j h in
    ap (λ (u : CoreState). done_at (state_of u job)) t.next ∙ with_done s j job (Held w) Done (same_job job j) refl t.held refl
put_next s (Retire w) job h =
    let t = accepted_retire s w h in
    omega (arith, ap (λ (u : CoreState). done_at (state_of u job)) t.next, ap done_at (state_of-retire s w job), done-freed w (state_of s job))

pub put_run : (s : CoreState) (es : List Event) (job : JobId) → is_legal s es ≡ true → done_at (state_of (replay s es) job) ≡ done_at (state_of s job) + puts_of es job
put_run s [] job h = omega arith
put_run s (e ∷ es) job h =
    let p = legal_parts s e es h in
    omega (arith, put_next s e job p.0, put_run (next_state s e) es job p.1, sum_by-cons (λ x. cond (is_put_of job x) 1 0) e es)

pub put_once : (workers pages : ℕ) (needs : List (List ℕ)) (es : List Event) → is_legal (opening workers pages needs) es ≡ true → (job : JobId) → count_by (same_job job) (jobs_put es) ≤ 1
put_once workers pages needs es h job =
    let s = opening workers pages needs in
    omega (arith, put_run s es job h, done_at-le (state_of (replay s es) job), puts_are es job)

holds_run : (s : CoreState) (es : List Event) → is_legal s es ≡ true → HoldsOne s → HoldsOne (replay s es)
holds_run s [] h one = one
holds_run s (e ∷ es) h one =
    let p = legal_parts s e es h in
    holds_run (next_state s e) es p.1 (held_next s e p.0 one)

pub holds_one : (workers pages : ℕ) (needs : List (List ℕ)) (es : List Event) → is_legal (opening workers pages needs) es ≡ true → (w : ℕ) → held_count (replay (opening workers pages needs) es) w ≤ 1
holds_one workers pages needs es h w = (holds_run (opening workers pages needs) es h (opening_holds workers pages needs)).one w
