-- How counts over job states change with one job, and where a worker's jobs are freed.
use Rattle.std.proofs.Common.{◌≡◌, ℕ, zero, suc, ◌+◌, ◌*◌, ◌<◌, ◌≤◌, Bool, true, false, cond, eqb, List, [], ◌∷◌, length, set, map, replicate, Some, refl, sym}
use Rattle.std.proofs.Common.{ap, ◌∙◌, arith}
use Rattle.std.specs.List.{sum_by, count_by, list_all, range_with_len, slice_get}
use Rattle.std.proofs.lemmas.List.Sums.{sum_by-set, sum_by-cons}
use Rattle.std.proofs.lemmas.Option.{slice_get_within, get_or_from_slice_get}
use Rattle.std.proofs.lemmas.Bool.{and_parts}
use Rattle.std.proofs.lemmas.Bool.Decides.{nat_tests}
use Rattle.job_core.specs.declared.job.JobId.{JobId}
use Rattle.job_core.specs.declared.job.JobId.TheVariants.{Page, Launch}
use Rattle.job_core.specs.declared.job.JobState.{JobState}
use Rattle.job_core.specs.declared.job.JobState.TheVariants.{Free, Held, Done}
use Rattle.job_core.specs.Jobs.{CoreState, is_done, is_held_by, state_of, with_job, freed}

-- a test as a number
abbrev pub bit : Bool → ℕ
bit b = cond b 1 0

-- a sum over all jobs
abbrev pub total : (JobState → ℕ) → CoreState → ℕ
total f s = sum_by f s.pages + sum_by f s.launches

abbrev pub weight : JobState → ℕ
weight Free = 0
weight (Held w) = 1
weight Done = 2

pub sum_by-slice_set : {X : Type 0} (f : X → ℕ) (xs : List X) (i : ℕ) (x y : X) → slice_get xs i ≡ Some x → sum_by f (set xs i y) + f x ≡ sum_by f xs + f y
sum_by-slice_set f xs i x y at =
    let within = slice_get_within xs i x at in
    let is = get_or_from_slice_get xs i x x at in
    ap (λ z. sum_by f (set xs i y) + f z) (sym is) ∙ sum_by-set f xs i y x within

-- one job changes
pub total-with_job : (f : JobState → ℕ) (s : CoreState) (job : JobId) (x y : JobState) → state_of s job ≡ Some x
    → total f (with_job s job y) + f x ≡ total f s + f y
total-with_job f s (Page j) x y at = omega (arith, sum_by-slice_set f s.pages j x y at)
total-with_job f s (Launch l) x y at = omega (arith, sum_by-slice_set f s.launches l x y at)

-- freeing takes one from the weight for each job that was held
freed-weight : (w : ℕ) (x : JobState) → weight (freed w x) + cond (is_held_by w x) 1 0 ≡ weight x
freed-weight w Free = refl
freed-weight w (Held v) = grind (arith, nat_tests)
freed-weight w Done = refl

freed-done : (w : ℕ) (x : JobState) → bit (is_done (freed w x)) ≡ bit (is_done x)
freed-done w Free = refl
freed-done w (Held v) = grind (arith, nat_tests)
freed-done w Done = refl

freed-held : (w v : ℕ) (x : JobState) → cond (is_held_by v (freed w x)) 1 0 ≤ cond (is_held_by v x) 1 0
freed-held w v Free = omega arith
freed-held w v (Held u) = grind (arith, nat_tests)
freed-held w v Done = omega arith

pub sum-freed_weight : (w : ℕ) (xs : List JobState) → sum_by weight (map (freed w) xs) + count_by (is_held_by w) xs ≡ sum_by weight xs
sum-freed_weight w [] = refl
sum-freed_weight w (x ∷ xs) =
    omega (
      arith,
      freed-weight w x,
      sum-freed_weight w xs,
      sum_by-cons weight (freed w x) (map (freed w) xs),
      sum_by-cons weight x xs,
      sum_by-cons (λ y. cond (is_held_by w y) 1 0) x xs,
    )

pub sum-freed_done : (w : ℕ) (xs : List JobState) → count_by is_done (map (freed w) xs) ≡ count_by is_done xs
sum-freed_done w [] = refl
sum-freed_done w (x ∷ xs) =
    omega (
      arith,
      freed-done w x,
      sum-freed_done w xs,
      sum_by-cons (λ y. cond (is_done y) 1 0) (freed w x) (map (freed w) xs),
      sum_by-cons (λ y. cond (is_done y) 1 0) x xs,
    )

pub sum-freed_held : (w v : ℕ) (xs : List JobState) → count_by (is_held_by v) (map (freed w) xs) ≤ count_by (is_held_by v) xs
sum-freed_held w v [] = omega arith
sum-freed_held w v (x ∷ xs) =
    omega (
      arith,
      freed-held w v x,
      sum-freed_held w v xs,
      sum_by-cons (λ y. cond (is_held_by v y) 1 0) (freed w x) (map (freed w) xs),
      sum_by-cons (λ y. cond (is_held_by v y) 1 0) x xs,
    )

weight-le : (x : JobState) → weight x ≤ 2
weight-le Free = omega arith
weight-le (Held w) = omega arith
weight-le Done = omega arith

pub sum-weight_le : (xs : List JobState) → sum_by weight xs ≤ 2 * length xs
sum-weight_le [] = omega arith
sum-weight_le (x ∷ xs) = omega (arith, weight-le x, sum-weight_le xs, sum_by-cons weight x xs)

pub sum_by-replicate_zero : {X : Type 0} (f : X → ℕ) (n : ℕ) (x : X) → f x ≡ 0 → sum_by f (replicate n x) ≡ 0
sum_by-replicate_zero f zero x none = refl
sum_by-replicate_zero f (suc n) x none = omega (arith, none, sum_by-replicate_zero f n x none, sum_by-cons f x (replicate n x))

pub sum_by-zero : {X : Type 0} (xs : List X) → sum_by (λ (x : X). 0) xs ≡ 0
sum_by-zero [] = refl
sum_by-zero (x ∷ xs) = omega (arith, sum_by-zero xs, sum_by-cons (λ y. 0) x xs)

-- where all jobs are done, as many are
pub all_done_count : (xs : List JobState) → list_all is_done xs ≡ true → count_by is_done xs ≡ length xs
all_done_count [] all = refl
all_done_count (x ∷ xs) all =
    let each = and_parts (is_done x) (list_all is_done xs) all in
    omega (arith, ap bit each.0, all_done_count xs each.1, sum_by-cons (λ y. bit (is_done y)) x xs)

-- of the numbers below n, just one is v, if v is below n
one_from_past : (v a n : ℕ) → v < a → sum_by (λ w. cond (eqb v w) 1 0) (range_with_len a n) ≡ 0
one_from_past v a zero lt = refl
one_from_past v a (suc n) lt =
    let rest = one_from_past v (a + 1) n (omega arith) in
    let first : bit (eqb v a) ≡ 0 = grind (arith, nat_tests) in
    omega (arith, rest, first, sum_by-cons (λ w. cond (eqb v w) 1 0) a (range_with_len (a + 1) n))

one_from_at : (v a n : ℕ) (b : Bool) → eqb v a ≡ b → a ≤ v
    → (a + 1 ≤ v → sum_by (λ w. cond (eqb v w) 1 0) (range_with_len (a + 1) n) ≡ 1)
    → sum_by (λ w. cond (eqb v w) 1 0) (range_with_len a (suc n)) ≡ 1
one_from_at v a n true is le more =
    let same : v < a + 1 = grind (arith, nat_tests) in
    let rest = one_from_past v (a + 1) n same in
    let first : bit (eqb v a) ≡ 1 = ap bit is in
    omega (arith, rest, first, sum_by-cons (λ w. cond (eqb v w) 1 0) a (range_with_len (a + 1) n))
one_from_at v a n false is le more =
    let above : a + 1 ≤ v = grind (arith, nat_tests) in
    let rest = more above in
    let first : bit (eqb v a) ≡ 0 = ap bit is in
    omega (arith, rest, first, sum_by-cons (λ w. cond (eqb v w) 1 0) a (range_with_len (a + 1) n))

one_from : (v a n : ℕ) → a ≤ v → v < a + n → sum_by (λ w. cond (eqb v w) 1 0) (range_with_len a n) ≡ 1
one_from v a zero le lt = absurd (omega arith)
one_from v a (suc n) le lt = one_from_at v a n (eqb v a) refl le (λ above. one_from v (a + 1) n above (omega arith))

pub one_below : (v n : ℕ) → v < n → sum_by (λ w. cond (eqb v w) 1 0) (range_with_len 0 n) ≡ 1
one_below v n lt = one_from v 0 n (omega arith) (omega arith)
