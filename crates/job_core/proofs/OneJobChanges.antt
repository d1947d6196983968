-- A change of one job shows in that job alone.
use Rattle.std.proofs.Common.{◌≡◌, ℕ, zero, suc, Bool, true, false, eqb, List, [], ◌∷◌, length, replicate, set, Option, Some, None, ap, refl, arith}
use Rattle.std.specs.Prelude.{unwrap_or}
use Rattle.std.specs.List.{slice_get}
use Rattle.std.proofs.lemmas.Bool.{false≢true}
use Rattle.std.proofs.lemmas.Bool.Decides.{nat_tests}
use Rattle.job_core.specs.declared.job.JobId.{JobId}
use Rattle.job_core.specs.declared.job.JobId.TheVariants.{Page, Launch}
use Rattle.job_core.specs.declared.job.JobState.{JobState}
use Rattle.job_core.specs.declared.job.JobState.TheVariants.{Free, Held, Done}
use Rattle.job_core.specs.Jobs.{CoreState, is_held_by, is_out, opening, state_of, with_job}
use Rattle.job_core.specs.Events.{same_job}

pub slice_get-set_same : {X : Type 0} (xs : List X) (i : ℕ) (x y : X) → slice_get xs i ≡ Some x → slice_get (set xs i y) i ≡ Some y
slice_get-set_same [] i x y at = cc
slice_get-set_same (z ∷ xs) zero x y at = refl
slice_get-set_same (z ∷ xs) (suc i) x y at = slice_get-set_same xs i x y at

pub slice_get-set_other : {X : Type 0} (xs : List X) (i j : ℕ) (y : X) → eqb j i ≡ false → slice_get (set xs i y) j ≡ slice_get xs j
slice_get-set_other [] i j y ne = refl
slice_get-set_other (z ∷ xs) zero zero y ne = absurd (grind (arith, nat_tests))
slice_get-set_other (z ∷ xs) zero (suc j) y ne = refl
slice_get-set_other (z ∷ xs) (suc i) zero y ne = refl
slice_get-set_other (z ∷ xs) (suc i) (suc j) y ne = let ne' : eqb j i ≡ false = grind (arith, nat_tests) in slice_get-set_other xs i j y ne'

-- a put of one job shows in that job alone
pub state_of-same : (s : CoreState) (job : JobId) (x y : JobState) → state_of s job ≡ Some x → state_of (with_job s job y) job ≡ Some y
state_of-same s (Page j) x y at = slice_get-set_same s.pages j x y at
state_of-same s (Launch l) x y at = slice_get-set_same s.launches l x y at

pub state_of-other : (s : CoreState) (job other : JobId) (y : JobState) → same_job other job ≡ false → state_of (with_job s job y) other ≡ state_of s other
state_of-other s (Page i) (Page j) y ne = slice_get-set_other s.pages i j y ne
state_of-other s (Page i) (Launch l) y ne = refl
state_of-other s (Launch k) (Page j) y ne = refl
state_of-other s (Launch k) (Launch l) y ne = slice_get-set_other s.launches k l y ne

pub same_job-is : (a b : JobId) → same_job a b ≡ true → a ≡ b
same_job-is (Page i) (Page j) h = let e : i ≡ j = grind (arith, nat_tests) in ap Page e
same_job-is (Page i) (Launch l) h = cc
same_job-is (Launch k) (Page j) h = cc
same_job-is (Launch k) (Launch l) h = let e : k ≡ l = grind (arith, nat_tests) in ap Launch e

pub held_is : (w : ℕ) (x : JobState) → is_held_by w x ≡ true → x ≡ Held w
held_is w Free h = absurd (false≢true h)
held_is w (Held v) h = let same : v ≡ w = grind (arith, nat_tests) in ap Held same
held_is w Done h = absurd (false≢true h)

-- a worker that is not out has a place, which is not retired
pub not_out : (s : CoreState) (w : ℕ) → is_out s w ≡ false → slice_get s.retired w ≡ Some false
not_out s w h = not_out_at (slice_get s.retired w) h
  where
    not_out_at : (o : Option Bool) → unwrap_or o true ≡ false → o ≡ Some false
    not_out_at None e = cc
    not_out_at (Some b) e = ap Some e

-- each job of an opening state is free, or is not there
pub fresh : {A : Type 0} (f : Option JobState → A) (a : A) → f None ≡ a → f (Some Free) ≡ a → (n l : ℕ) → f (slice_get (replicate n Free) l) ≡ a
fresh f a past free zero l = past
fresh f a past free (suc n) zero = free
fresh f a past free (suc n) (suc l) = fresh f a past free n l

pub fresh_job : {A : Type 0} (f : Option JobState → A) (a : A) → f None ≡ a → f (Some Free) ≡ a
    → (workers pages : ℕ) (needs : List (List ℕ)) (job : JobId) → f (state_of (opening workers pages needs) job) ≡ a
fresh_job f a past free workers pages needs (Page j) = fresh f a past free pages j
fresh_job f a past free workers pages needs (Launch l) = fresh f a past free (length needs) l
