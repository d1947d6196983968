-- What a core counts and marks is right after each step.
use Rattle.std.proofs.Common.{min, ◌≡◌, ℕ, zero, suc, ◌+◌, ◌-◌, ◌<◌, ◌≤◌, Bool, true, false, cond, eqb, ◌&&◌, List, [], ◌∷◌, length, set, map, replicate}
use Rattle.std.proofs.Common.{Option, Some, None, Result, Ok, Err, refl, sym, ap, ◌∙◌, subst, arith}
use Rattle.std.specs.Prelude.{◌==◌, IfSome, OnErr}
use Rattle.refusal.specs.Answer.{Matches}
use Rattle.job_core.specs.declared.job.CoreFault.{CoreFault}
use Rattle.std.specs.List.{count_by, list_all, slice_get}
use Rattle.std.proofs.lemmas.List.{length-replicate}
use Rattle.std.proofs.lemmas.List.Sums.{count_by-le-length, sum_by-cons}
use Rattle.std.proofs.lemmas.Option.{same_Some}
use Rattle.std.proofs.lemmas.Bool.Decides.{nat_tests}
use Rattle.job_core.specs.declared.job.JobId.{JobId}
use Rattle.job_core.specs.declared.job.JobId.TheVariants.{Page, Launch}
use Rattle.job_core.specs.declared.job.JobState.{JobState}
use Rattle.job_core.specs.declared.job.JobState.TheVariants.{Free, Held, Done}
use Rattle.job_core.specs.declared.job.Event.{Event}
use Rattle.job_core.specs.declared.job.Event.TheVariants.{Take, Put, Retire}
use Rattle.job_core.specs.Jobs.{CoreState, IsCore, NeedsWithin, freed, held_count, is_done, is_free, is_over, opening, state_of, with_page, with_launch}
use Rattle.job_core.specs.Step.{core_step}
use Rattle.job_core.specs.inside.Notes.{held_of}
use Rattle.job_core.specs.inside.Marks.{Marks, Passed, lowered_page}
use Rattle.job_core.proofs.CountsOfJobs.{all_done_count, bit, sum_by-slice_set, sum_by-replicate_zero, sum-freed_done}
use Rattle.job_core.proofs.OneJobChanges.{slice_get-set_other, slice_get-set_same}
use Rattle.job_core.proofs.NotesOfWorkers.{released_none, released_one}
use Rattle.job_core.proofs.WhatStepsChange as kept

-- what every core keeps stays so
pub core_next : (s t : CoreState) (e : Event) → core_step s e ≡ Ok t → IsCore s → IsCore t
core_next s t e is c = record {
  first = kept.first s t e is c.first;
  workers = let n = kept.workers s t e is in omega (arith, n, c.workers);
  launches = kept.launches s t e is ∙ (c.launches ∙ ap length (sym (kept.needs s t e is)));
  needs = subst (λ (ns : List (List ℕ)). NeedsWithin ns (length t.pages)) (sym (kept.needs s t e is))
      (subst (λ (n : ℕ). NeedsWithin s.needs n) (sym (kept.pages s t e is)) c.needs);
}

-- ---- free pages

-- a place that is free after another one was made so was free before
pub not_free_at : (xs : List JobState) (j k : ℕ) (x y : JobState) (b : Bool) → eqb k j ≡ b → slice_get xs j ≡ Some x → is_free y ≡ false
    → slice_get (set xs j y) k ≡ Some Free → slice_get xs k ≡ Some Free
not_free_at xs j k x y true is at taken free =
    let same : k ≡ j = grind (arith, nat_tests) in
    let now : slice_get (set xs j y) k ≡ Some y = ap (slice_get (set xs j y)) same ∙ slice_get-set_same xs j x y at in
    let here : y ≡ Free = same_Some y Free (sym now ∙ free) in
    let wrong : false ≡ true = sym taken ∙ ap is_free here in
    cc
not_free_at xs j k x y false is at taken free = sym (slice_get-set_other xs j k y is) ∙ free

passed_set : (n : ℕ) (xs : List JobState) (j : ℕ) (x y : JobState) → slice_get xs j ≡ Some x → is_free y ≡ false → Passed n xs → Passed n (set xs j y)
passed_set n xs j x y at taken before = λ k lt free. before k lt (not_free_at xs j k x y (eqb k j) refl at taken free)

-- a job that is made so, and not free
passed_job : (f : ℕ) (s : CoreState) (job : JobId) (x y : JobState) → state_of s job ≡ Some x → is_free y ≡ false → Passed f s.pages
    → Passed f (with_page job y s.pages)
passed_job f s (Page j) x y at taken before = passed_set f s.pages j x y at taken before
passed_job f s (Launch l) x y at taken before = before

-- a job that is free again
passed_freed : (n : ℕ) (xs : List JobState) (j : ℕ) → Passed n xs → Passed (min n j) (set xs j Free)
passed_freed n xs j before = λ k lt free.
    let other : eqb k j ≡ false = grind (arith, nat_tests, lt) in
    let below : k < n = omega (arith, lt) in
    before k below (sym (slice_get-set_other xs j k Free other) ∙ free)

-- the job that a worker holds
abbrev pub HeldIs : CoreState → ℕ → Option JobId → Type 0
HeldIs s w None = held_count s w ≡ 0
HeldIs s w (Some job) = (state_of s job ≡ Some (Held w)) × (held_count s w ≡ 1)

passed_released : (f : ℕ) (s : CoreState) (w : ℕ) (held : Option JobId) → HeldIs s w held → Passed f s.pages
    → Passed (lowered_page f held) (map (freed w) s.pages)
passed_released f s w None h before = subst (λ (v : CoreState). Passed f v.pages) (released_none s w h) before
passed_released f s w (Some (Page j)) h before =
    let one : held_count s w ≤ 1 = omega (arith, h.1) in
    subst (λ (v : CoreState). Passed (min f j) v.pages) (released_one s w (Page j) h.0 one) (passed_freed f s.pages j before)
passed_released f s w (Some (Launch l)) h before =
    let one : held_count s w ≤ 1 = omega (arith, h.1) in
    subst (λ (v : CoreState). Passed f v.pages) (released_one s w (Launch l) h.0 one) before

-- ---- jobs done

pages_same : (s : CoreState) (job : JobId) (x y : JobState) → state_of s job ≡ Some x → bit (is_done x) ≡ bit (is_done y)
    → count_by is_done (with_page job y s.pages) ≡ count_by is_done s.pages
pages_same s (Page j) x y at same = omega (arith, same, sum_by-slice_set (λ z. cond (is_done z) 1 0) s.pages j x y at)
pages_same s (Launch l) x y at same = refl

launches_same : (s : CoreState) (job : JobId) (x y : JobState) → state_of s job ≡ Some x → bit (is_done x) ≡ bit (is_done y)
    → count_by is_done (with_launch job y s.launches) ≡ count_by is_done s.launches
launches_same s (Page j) x y at same = refl
launches_same s (Launch l) x y at same = omega (arith, same, sum_by-slice_set (λ z. cond (is_done z) 1 0) s.launches l x y at)

-- none is left where all are done
all_or_fewer : (xs : List JobState) (b : Bool) → list_all is_done xs ≡ b → (count_by is_done xs == length xs) ≡ b
all_or_fewer xs true all = let is = all_done_count xs all in grind (arith, nat_tests, is)
all_or_fewer xs false all = let is = open_count xs all in grind (arith, nat_tests, is)
  where
    open_at : (y : JobState) (ys : List JobState) (b : Bool) → is_done y ≡ b → list_all is_done (y ∷ ys) ≡ false
        → (list_all is_done ys ≡ false → count_by is_done ys < length ys) → count_by is_done (y ∷ ys) < length (y ∷ ys)
    open_at y ys true is h more =
        let rest = more (sym (ap (λ (c : Bool). c && list_all is_done ys) is) ∙ h) in
        omega (arith, ap bit is, rest, sum_by-cons (λ z. cond (is_done z) 1 0) y ys)
    open_at y ys false is h more = omega (arith, ap bit is, count_by-le-length is_done ys, sum_by-cons (λ z. cond (is_done z) 1 0) y ys)

    open_count : (ys : List JobState) → list_all is_done ys ≡ false → count_by is_done ys < length ys
    open_count [] h = cc
    open_count (y ∷ ys) h = open_at y ys (is_done y) refl h (λ more. open_count ys more)

pub none_left : (xs : List JobState) (left : ℕ) → left + count_by is_done xs ≡ length xs → (left == 0) ≡ list_all is_done xs
none_left xs left is =
    let all = all_or_fewer xs (list_all is_done xs) refl in
    let same : (left == 0) ≡ (count_by is_done xs == length xs) = grind (arith, nat_tests, is) in
    same ∙ all

-- ---- the marks

-- what was seen to be done stays done
marks_next : (f p q f' p' q' : ℕ) (s t : CoreState) (e : Event) → core_step s e ≡ Ok t
    → Marks f p q s
    → Passed f' t.pages
    → p' + count_by is_done t.pages ≡ length t.pages
    → q' + count_by is_done t.launches ≡ length t.launches
    → Marks f' p' q' t
marks_next f p q f' p' q' s t e is m free pages launches = record {
  free = free;
  pages = pages;
  launches = launches;
}

pub marks_take : (f p q : ℕ) (s t : CoreState) (w : ℕ) (job : JobId) → core_step s (Take w job) ≡ Ok t → Marks f p q s → Marks f p q t
marks_take f p q s t w job is m =
    let gives = kept.take_says s t w job is in
    let pages = ap (λ (v : CoreState). count_by is_done v.pages) gives.2 ∙ pages_same s job Free (Held w) gives.0 refl in
    let launches = ap (λ (v : CoreState). count_by is_done v.launches) gives.2 ∙ launches_same s job Free (Held w) gives.0 refl in
    marks_next f p q f p q s t (Take w job) is m
    (subst (λ (v : CoreState). Passed f v.pages) (sym gives.2) (passed_job f s job Free (Held w) gives.0 refl m.free))
    (omega (arith, pages, m.pages, kept.pages s t (Take w job) is))
    (omega (arith, launches, m.launches, kept.launches s t (Take w job) is))

passed_put : (f : ℕ) (s t : CoreState) (w : ℕ) (job : JobId) → core_step s (Put w job) ≡ Ok t → Passed f s.pages → Passed f t.pages
passed_put f s t w job is before =
    let gives = kept.put_says s t w job is in
    subst (λ (v : CoreState). Passed f v.pages) (sym gives.2) (passed_job f s job (Held w) Done gives.1 refl before)

-- a page is put, and one page fewer is left
put_page_left : (p : ℕ) (s t : CoreState) (w j : ℕ) → core_step s (Put w (Page j)) ≡ Ok t → p + count_by is_done s.pages ≡ length s.pages
    → (count_by is_done t.pages ≡ count_by is_done s.pages + 1) × (1 ≤ p)
put_page_left p s t w j is left =
    let gives = kept.put_says s t w (Page j) is in
    let more : count_by is_done t.pages ≡ count_by is_done s.pages + 1 =
    ap (λ (v : CoreState). count_by is_done v.pages) gives.2 ∙ omega (arith, sum_by-slice_set (λ z. cond (is_done z) 1 0) s.pages j (Held w) Done gives.1) in
    (more, omega (arith, more, left, count_by-le-length is_done t.pages, kept.pages s t (Put w (Page j)) is))

pub marks_put_page : (f p q : ℕ) (s t : CoreState) (w j : ℕ) → core_step s (Put w (Page j)) ≡ Ok t → Marks f p q s → (1 ≤ p) × Marks f (p - 1) q t
marks_put_page f p q s t w j is m =
    let gives = kept.put_says s t w (Page j) is in
    let left = put_page_left p s t w j is m.pages in
    let launches = ap (λ (v : CoreState). count_by is_done v.launches) gives.2 in (
      left.1,
      marks_next f p q f (p - 1) q s t (Put w (Page j)) is m (passed_put f s t w (Page j) is m.free)
          (omega (arith, left.0, left.1, m.pages, kept.pages s t (Put w (Page j)) is))
          (omega (arith, launches, m.launches, kept.launches s t (Put w (Page j)) is)),
    )

put_launch_left : (q : ℕ) (s t : CoreState) (w l : ℕ) → core_step s (Put w (Launch l)) ≡ Ok t → q + count_by is_done s.launches ≡ length s.launches
    → (count_by is_done t.launches ≡ count_by is_done s.launches + 1) × (1 ≤ q)
put_launch_left q s t w l is left =
    let gives = kept.put_says s t w (Launch l) is in
    let more : count_by is_done t.launches ≡ count_by is_done s.launches + 1 =
    ap (λ (v : CoreState). count_by is_done v.launches) gives.2
    ∙ omega (arith, sum_by-slice_set (λ z. cond (is_done z) 1 0) s.launches l (Held w) Done gives.1) in
    (more, omega (arith, more, left, count_by-le-length is_done t.launches, kept.launches s t (Put w (Launch l)) is))

pub marks_put_launch : (f p q : ℕ) (s t : CoreState) (w l : ℕ) → core_step s (Put w (Launch l)) ≡ Ok t → Marks f p q s → (1 ≤ q) × Marks f p (q - 1) t
marks_put_launch f p q s t w l is m =
    let gives = kept.put_says s t w (Launch l) is in
    let left = put_launch_left q s t w l is m.launches in
    let pages = ap (λ (v : CoreState). count_by is_done v.pages) gives.2 in (
      left.1,
      marks_next f p q f p (q - 1) s t (Put w (Launch l)) is m (passed_put f s t w (Launch l) is m.free)
          (omega (arith, pages, m.pages, kept.pages s t (Put w (Launch l)) is))
          (omega (arith, left.0, left.1, m.launches, kept.launches s t (Put w (Launch l)) is)),
    )

-- all is done where nothing is left
pub finished_then : (f p q : ℕ) (s : CoreState) → Marks f p q s → (p == 0) ≡ true → (q == 0) ≡ is_over s
finished_then f p q s m none =
    let pages : list_all is_done s.pages ≡ true = sym (none_left s.pages p m.pages) ∙ none in
    none_left s.launches q m.launches ∙ ap (λ (b : Bool). b && list_all is_done s.launches) (sym pages)

pub finished_else : (f p q : ℕ) (s : CoreState) → Marks f p q s → (p == 0) ≡ false → false ≡ is_over s
finished_else f p q s m some =
    let pages : list_all is_done s.pages ≡ false = sym (none_left s.pages p m.pages) ∙ some in
    ap (λ (b : Bool). b && list_all is_done s.launches) (sym pages)

pub marks_retire : (f p q : ℕ) (s t : CoreState) (w : ℕ) (held : Option JobId) → core_step s (Retire w) ≡ Ok t → HeldIs s w held
    → Marks f p q s → Marks (lowered_page f held) p q t
marks_retire f p q s t w held is h m =
    let gives = (kept.retire_says s t w is).1 in
    let pages = ap (λ (v : CoreState). count_by is_done v.pages) gives ∙ sum-freed_done w s.pages in
    let launches = ap (λ (v : CoreState). count_by is_done v.launches) gives ∙ sum-freed_done w s.launches in
    marks_next f p q (lowered_page f held) p q s t (Retire w) is m
    (subst (λ (v : CoreState). Passed (lowered_page f held) v.pages) (sym gives) (passed_released f s w held h m.free))
    (omega (arith, pages, m.pages, kept.pages s t (Retire w) is))
    (omega (arith, launches, m.launches, kept.launches s t (Retire w) is))

-- ---- a fresh core

none_done : (n : ℕ) → n + count_by is_done (replicate n Free) ≡ length (replicate n Free)
none_done n = omega (arith, sum_by-replicate_zero (λ x. cond (is_done x) 1 0) n Free refl, length-replicate n Free)

pub marks_fresh : (workers pages : ℕ) (needs : List (List ℕ)) → Marks 0 pages (length needs) (opening workers pages needs)
marks_fresh workers pages needs = record {
  free = λ j lt. absurd (omega (arith, lt));
  pages = none_done pages;
  launches = none_done (length needs);
}

pub core_fresh : (workers pages : ℕ) (needs : List (List ℕ)) → 1 ≤ workers → workers ≤ 64 → NeedsWithin needs pages → IsCore (opening workers pages needs)
core_fresh zero pages needs some few within = absurd (omega (arith, some))
core_fresh (suc n) pages needs some few within = record {
  first = refl;
  workers = omega (arith, few, length-replicate (suc n) false);
  launches = length-replicate (length needs) Free;
  needs = subst (λ (k : ℕ). NeedsWithin needs k) (sym (length-replicate pages Free)) within;
}

-- ---- a take

pub taken_kept : {U : Type 0} (f p q : ℕ) (s t : CoreState) (w : ℕ) (job : JobId) (r : Result U CoreFault) → Matches (λ u. t) r (core_step s (Take w job))
    → OnErr r (t ≡ s)
    → IsCore s × Marks f p q s → IsCore t × Marks f p q t
taken_kept f p q s t w job (Ok u) is same m = (core_next s t (Take w job) is m.0, marks_take f p q s t w job is m.1)
taken_kept f p q s t w job (Err e) is same m = subst (λ (u : CoreState). IsCore u × Marks f p q u) (sym same) m

pub held_is_job : (s : CoreState) (w : ℕ) (held : Option JobId) → IfSome held (λ job. state_of s job ≡ Some (Held w)) → held_count s w ≡ held_of held
    → HeldIs s w held
held_is_job s w None at count = count
held_is_job s w (Some job) at count = (at, count)
