-- What is noted of the workers is right after each change.
use Rattle.std.proofs.Common.{◌≡◌, ◌≢◌, ℕ, zero, suc, ◌<◌, ◌≤◌, Bool, true, false, cond, eqb, List, [], ◌∷◌, length, get_or, set, map, replicate, Option, Some, None, refl, sym, ap, ◌∙◌, subst, arith, inl, inr}
use Rattle.std.specs.Prelude.{◌⊎◌}
use Rattle.std.specs.List.{count_by, slice_get}
use Rattle.std.proofs.lemmas.List.{length-set, length-replicate, get_or-set_same, get_or-set_other}
use Rattle.std.proofs.lemmas.List.Sums.{sum_by-cons, get_or-le-sum_by}
use Rattle.std.proofs.lemmas.Bool.{cases_eq, ne_eqb}
use Rattle.std.proofs.lemmas.Option.{slice_get_within, get_or_from_slice_get, same_Some, slice_get-get_or}
use Rattle.std.proofs.lemmas.Bool.Decides.{nat_tests}
use Rattle.job_core.specs.declared.job.JobId.{JobId}
use Rattle.job_core.specs.declared.job.JobId.TheVariants.{Page, Launch}
use Rattle.job_core.specs.declared.job.JobState.{JobState}
use Rattle.job_core.specs.declared.job.JobState.TheVariants.{Free, Held}
use Rattle.job_core.specs.Jobs.{CoreState, is_held_by, is_out, state_of, with_job, held_count, freed}
use Rattle.job_core.specs.Events.{same_job}
use Rattle.job_core.specs.inside.Notes.{held_of, released, Notes, Moves}
use Rattle.job_core.proofs.CountsOfJobs.{bit, total-with_job, sum_by-replicate_zero}
use Rattle.job_core.proofs.OneJobChanges.{not_out, state_of-same, state_of-other, same_job-is, slice_get-set_same, slice_get-set_other}

abbrev no_job : ℕ → Option JobId
no_job n = None

pub worker_in : (s : CoreState) (holding : List (Option JobId)) (w : ℕ) → Notes holding s → is_out s w ≡ false → w < length holding
worker_in s holding w n known = let r = slice_get_within s.retired w false (not_out s w known) in omega (arith, r, n.size)

-- the state of another worker's job stays
other_job : (s : CoreState) (v w : ℕ) (job j : JobId) (x y : JobState) → state_of s job ≡ Some x → is_held_by v x ≡ false → state_of s j ≡ Some (Held v) → state_of (with_job s job y) j ≡ Some (Held v)
other_job s v w job j x y at not_v held = other_job_at (same_job j job) refl
  where
    other_job_at : (b : Bool) → same_job j job ≡ b → state_of (with_job s job y) j ≡ Some (Held v)
    other_job_at true is =
        let same = same_job-is j job is in
        let both : Some x ≡ Some (Held v) = sym at ∙ ap (state_of s) (sym same) ∙ held in
        let hv : is_held_by v x ≡ is_held_by v (Held v) = ap (is_held_by v) (same_Some x (Held v) both) in
        let yes : eqb v v ≡ true = grind (arith, nat_tests) in
        absurd (grind (arith, hv, yes, not_v))
    other_job_at false is = state_of-other s job j y is ∙ held

-- the old state of the job that moves, and that no other worker held it
pub moved_from : (s : CoreState) (w : ℕ) (job : JobId) (x : JobState) (held : Option JobId) → Moves s w job x held
    → (y : JobState) × (state_of s job ≡ Some y) × ((v : ℕ) → v ≢ w → is_held_by v y ≡ false)
moved_from s w job x None m = (Held w, m.0, λ v ne. ne_eqb w v (λ e. ne (sym e)))
moved_from s w job x (Some taken) m = (Free, m.0, λ v ne. refl)

held_after : (s : CoreState) (w : ℕ) (job : JobId) (x : JobState) (held : Option JobId) (j : JobId) → Moves s w job x held → held ≡ Some j → state_of (with_job s job x) j ≡ Some (Held w)
held_after s w job x None j m is = cc
held_after s w job x (Some taken) j m is =
    let same : j ≡ job = sym (same_Some taken j is) ∙ m.2 in
    let now = state_of-same s job Free x m.0 in
    subst (λ (o : JobId). state_of (with_job s job x) o ≡ Some (Held w)) (sym same) (now ∙ ap Some m.1)

count_after : (s : CoreState) (w : ℕ) (job : JobId) (x : JobState) (held : Option JobId) → Moves s w job x held → held_count s w ≤ 1 → held_count (with_job s job x) w ≡ held_of held
count_after s w job x None m one =
    let t = total-with_job (λ y. cond (is_held_by w y) 1 0) s job (Held w) x m.0 in
    let yes : bit (eqb w w) ≡ 1 = grind (arith, nat_tests) in
    let gone : bit (is_held_by w x) ≡ 0 = ap bit (m.1 w) in
    omega (arith, t, yes, gone, one)
count_after s w job x (Some taken) m one =
    let t = total-with_job (λ y. cond (is_held_by w y) 1 0) s job Free x m.0 in
    let yes : bit (eqb w w) ≡ 1 = grind (arith, nat_tests) in
    let now : bit (is_held_by w x) ≡ bit (eqb w w) = ap (λ y. bit (is_held_by w y)) m.1 in
    omega (arith, t, yes, now, m.3)

held_of_le : (k : ℕ) (o : Option JobId) → k ≡ held_of o → k ≤ 1
held_of_le k None is = omega arith
held_of_le k (Some j) is = omega arith

new_other : (s : CoreState) (w v : ℕ) (job : JobId) (x : JobState) (held : Option JobId) → Moves s w job x held → v ≢ w → is_held_by v x ≡ false
new_other s w v job x None m ne = m.1 v
new_other s w v job x (Some taken) m ne = ap (is_held_by v) m.1 ∙ ne_eqb w v (λ e. ne (sym e))

-- a write of a job and of what its worker holds
pub notes_write : (holding : List (Option JobId)) (s : CoreState) (w : ℕ) (job : JobId) (x : JobState) (held : Option JobId)
    → Notes holding s → is_out s w ≡ false → Moves s w job x held → Notes (set holding w held) (with_job s job x)
notes_write holding s w job x held n known m =
    record {
      size = length-set holding w held ∙ n.size;
      held = λ v j at. held_by v j at (cases_eq v w);
      count = λ v. count_by_cases v (cases_eq v w);
    }
  where
    within : w < length holding
    within = worker_in s holding w n known

    from : (y : JobState) × (state_of s job ≡ Some y) × ((v : ℕ) → v ≢ w → is_held_by v y ≡ false)
    from = moved_from s w job x held m

    held_by : (v : ℕ) (j : JobId) → slice_get (set holding w held) v ≡ Some (Some j) → (v ≡ w) ⊎ (v ≡ w → ⊥) → state_of (with_job s job x) j ≡ Some (Held v)
    held_by v j at (inl same) =
        let here : slice_get (set holding w held) w ≡ Some held = slice_get-set_same holding w (get_or holding w None) held (slice_get-get_or holding w None within) in
        let is : held ≡ Some j = same_Some held (Some j) (sym here ∙ ap (slice_get (set holding w held)) (sym same) ∙ at) in
        subst (λ (u : ℕ). state_of (with_job s job x) j ≡ Some (Held u)) (sym same) (held_after s w job x held j m is)
    held_by v j at (inr other) =
        let before = n.held v j (sym (slice_get-set_other holding w v held (ne_eqb v w other)) ∙ at) in
        other_job s v w job j from.0 x from.1 (from.2 v other) before

    count_by_cases : (v : ℕ) → (v ≡ w) ⊎ (v ≡ w → ⊥) → held_count (with_job s job x) v ≡ held_of (get_or (set holding w held) v None)
    count_by_cases v (inl same) =
        let one : held_count s w ≤ 1 = held_of_le (held_count s w) (get_or holding w None) (n.count w) in
        let is = count_after s w job x held m one in
        let at : get_or (set holding w held) w None ≡ held = get_or-set_same holding w held None within in
        subst (λ (u : ℕ). held_count (with_job s job x) u ≡ held_of (get_or (set holding w held) u None)) (sym same) (is ∙ ap held_of (sym at))
    count_by_cases v (inr other) =
        let t = total-with_job (λ y. cond (is_held_by v y) 1 0) s job from.0 x from.1 in
        let no : bit (is_held_by v from.0) ≡ 0 = ap bit (from.2 v other) in
        let no' : bit (is_held_by v x) ≡ 0 = ap bit (new_other s w v job x held m other) in
        let at = ap held_of (get_or-set_other holding w v held None other) in
        omega (arith, t, no, no', at, n.count v)

-- a worker with nothing retires
freed_none : (w : ℕ) (x : JobState) → is_held_by w x ≡ false → freed w x ≡ x
freed_none w x other = ap (λ (b : Bool). cond b Free x) other

bit_zero : (b : Bool) → bit b ≡ 0 → b ≡ false
bit_zero true e = absurd (omega arith)
bit_zero false e = refl

pub map-freed_none : (w : ℕ) (xs : List JobState) → count_by (is_held_by w) xs ≡ 0 → map (freed w) xs ≡ xs
map-freed_none w [] none = refl
map-freed_none w (x ∷ xs) none =
    let c = sum_by-cons (λ y. cond (is_held_by w y) 1 0) x xs in
    let here : bit (is_held_by w x) ≡ 0 = omega arith in
    let rest : count_by (is_held_by w) xs ≡ 0 = omega arith in
    let a = freed_none w x (bit_zero (is_held_by w x) here) in
    let b = map-freed_none w xs rest in
    ap (λ y. y ∷ map (freed w) xs) a ∙ ap (λ ys. x ∷ ys) b

-- the one job that a worker holds
pub held_counts : (v : ℕ) (ys : List JobState) (k : ℕ) → slice_get ys k ≡ Some (Held v) → 1 ≤ count_by (is_held_by v) ys
held_counts v ys k is =
    let within = slice_get_within ys k (Held v) is in
    let here = get_or_from_slice_get ys k (Held v) Free is in
    let le = get_or-le-sum_by (λ y. cond (is_held_by v y) 1 0) ys k Free within in
    let yes : bit (is_held_by v (get_or ys k Free)) ≡ 1 = ap (λ y. bit (is_held_by v y)) here ∙ self_held v in
    omega arith
  where
    self_held : (u : ℕ) → bit (eqb u u) ≡ 1
    self_held u = grind (arith, nat_tests)

pub map-freed_one : (w : ℕ) (xs : List JobState) (j : ℕ) → slice_get xs j ≡ Some (Held w) → count_by (is_held_by w) xs ≤ 1 → map (freed w) xs ≡ set xs j Free
map-freed_one w [] j at one = cc
map-freed_one w (x ∷ xs) zero at one =
    let is : x ≡ Held w = same_Some x (Held w) at in
    let c = sum_by-cons (λ y. cond (is_held_by w y) 1 0) x xs in
    let yes : bit (is_held_by w x) ≡ 1 = ap (λ y. bit (is_held_by w y)) is ∙ grind (arith, nat_tests) in
    let rest : count_by (is_held_by w) xs ≡ 0 = omega arith in
    let now : freed w x ≡ Free = ap (freed w) is ∙ grind (arith, nat_tests) in
    ap (λ y. y ∷ map (freed w) xs) now ∙ ap (λ ys. Free ∷ ys) (map-freed_none w xs rest)
map-freed_one w (x ∷ xs) (suc j) at one =
    let c = sum_by-cons (λ y. cond (is_held_by w y) 1 0) x xs in
    let there : 1 ≤ count_by (is_held_by w) xs = held_counts w xs j at in
    let here : bit (is_held_by w x) ≡ 0 = omega arith in
    let rest : count_by (is_held_by w) xs ≤ 1 = omega arith in
    ap (λ y. y ∷ map (freed w) xs) (freed_none w x (bit_zero (is_held_by w x) here)) ∙ ap (λ ys. x ∷ ys) (map-freed_one w xs j at rest)

-- what a release makes of the state
pub released_none : (s : CoreState) (w : ℕ) → held_count s w ≡ 0 → s ≡ released s w
released_none s w none =
    let a : count_by (is_held_by w) s.pages ≡ 0 = omega arith in
    let b : count_by (is_held_by w) s.launches ≡ 0 = omega arith in
    let made : List JobState → List JobState → CoreState = λ ps ls. record { retired = s.retired; pages = ps; launches = ls; needs = s.needs } in
    ap (λ ps. made ps s.launches) (sym (map-freed_none w s.pages a)) ∙ ap (λ ls. made (map (freed w) s.pages) ls) (sym (map-freed_none w s.launches b))

pub released_one : (s : CoreState) (w : ℕ) (job : JobId) → state_of s job ≡ Some (Held w) → held_count s w ≤ 1 → with_job s job Free ≡ released s w
released_one s w (Page j) at one =
    let there = held_counts w s.pages j at in
    let a : count_by (is_held_by w) s.pages ≤ 1 = omega arith in
    let b : count_by (is_held_by w) s.launches ≡ 0 = omega arith in
    let made : List JobState → List JobState → CoreState = λ ps ls. record { retired = s.retired; pages = ps; launches = ls; needs = s.needs } in
    ap (λ ps. made ps s.launches) (sym (map-freed_one w s.pages j at a)) ∙ ap (λ ls. made (map (freed w) s.pages) ls) (sym (map-freed_none w s.launches b))
released_one s w (Launch l) at one =
    let there = held_counts w s.launches l at in
    let a : count_by (is_held_by w) s.pages ≡ 0 = omega arith in
    let b : count_by (is_held_by w) s.launches ≤ 1 = omega arith in
    let made : List JobState → List JobState → CoreState = λ ps ls. record { retired = s.retired; pages = ps; launches = ls; needs = s.needs } in
    ap (λ ps. made ps (set s.launches l Free)) (sym (map-freed_none w s.pages a)) ∙ ap (λ ls. made (map (freed w) s.pages) ls) (sym (map-freed_one w s.launches l at b))

-- a fresh core holds nothing
nothing_held : (n v : ℕ) (j : JobId) → slice_get (replicate n (no_job n)) v ≡ Some (Some j) → ⊥
nothing_held zero v j at = cc
nothing_held (suc n) zero j at = cc
nothing_held (suc n) (suc v) j at = nothing_held n v j at

none_at : (n v : ℕ) → get_or (replicate n (no_job n)) v None ≡ no_job n
none_at zero v = refl
none_at (suc n) zero = refl
none_at (suc n) (suc v) = none_at n v

pub notes_fresh : (workers pages launches : ℕ) (needs : List (List ℕ))
    → Notes (replicate workers None) (record { retired = replicate workers false; pages = replicate pages Free; launches = replicate launches Free; needs = needs })
notes_fresh workers pages launches needs = record {
  size = length-replicate workers (no_job 0) ∙ sym (length-replicate workers false);
  held = λ w job at. absurd (nothing_held workers w job at);
  count = λ w. omega (arith, sum_by-replicate_zero (λ x. cond (is_held_by w x) 1 0) pages Free refl, sum_by-replicate_zero (λ x. cond (is_held_by w x) 1 0) launches Free refl, ap held_of (none_at workers w));
}
