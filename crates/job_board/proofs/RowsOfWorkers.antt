-- Each worker's row is on the board, unless it is with the launch that the worker holds.
use Rattle.std.proofs.Common.{◌≡◌, ℕ, ◌<◌, Bool, true, false, cond, eqb, List, length, get_or, set, Option, Some, None, Ok, sym, ap, ◌∙◌, subst, arith, refl}
use Rattle.std.specs.Prelude.{option_map, unwrap_or}
use Rattle.std.specs.List.{slice_get}
use Rattle.std.proofs.lemmas.Bool.Decides.{nat_tests}
use Rattle.std.proofs.lemmas.List.{length-set}
use Rattle.std.proofs.lemmas.Option.{same_Some, slice_get-get_or, slice_get-map, slice_get_within}
use Rattle.launch_plan.specs.Links.{PlanView}
use Rattle.job_core.specs.declared.job.JobId.TheVariants.{Page, Launch}
use Rattle.job_core.specs.declared.job.JobState.{JobState}
use Rattle.job_core.specs.declared.job.JobState.TheVariants.{Free, Held, Done}
use Rattle.job_core.specs.declared.job.Event.TheVariants.{Take, Put, Retire}
use Rattle.job_core.specs.Jobs.{CoreState, freed, is_out, with_job, without_worker}
use Rattle.job_core.specs.Step.{core_step}
use Rattle.job_tasks.specs.inside.Rows.{HasRows, HoldsNoLaunch}
use Rattle.job_core.proofs.OneJobChanges.{not_out, slice_get-set_other, slice_get-set_same}
use Rattle.job_core.proofs.WhatStepsChange.{put_says, retire_says, take_says}

-- a worker that is not retired has a place among the rows
pub row_within : (s : CoreState) (plans : List PlanView) (rows : List (Option (Unit {0}))) (room w : ℕ) → HasRows s plans rows room → is_out s w ≡ false → w < length rows
row_within s plans rows room w h known = let a = slice_get_within s.retired w false (not_out s w known) in omega (arith, a, h.size)

-- an event of a page changes no row
pub rows_take_page : (s t : CoreState) (plans : List PlanView) (rows : List (Option (Unit {0}))) (room w j : ℕ) → HasRows s plans rows room → core_step s (Take w (Page j)) ≡ Ok t → HasRows t plans rows room
rows_take_page s t plans rows room w j h is =
    subst (λ (u : CoreState). HasRows u plans rows room) (sym (take_says s t w (Page j) is).2) (record { size = h.size; there = h.there; most = h.most })

pub rows_put_page : (s t : CoreState) (plans : List PlanView) (rows : List (Option (Unit {0}))) (room w j : ℕ) → HasRows s plans rows room → core_step s (Put w (Page j)) ≡ Ok t → HasRows t plans rows room
rows_put_page s t plans rows room w j h is =
    subst (λ (u : CoreState). HasRows u plans rows room) (sym (put_says s t w (Page j) is).2) (record { size = h.size; there = h.there; most = h.most })

-- what another launch is stays, where one is changed that this worker does not hold
held_stays : (xs : List JobState) (k l v : ℕ) (x y : JobState) → slice_get xs k ≡ Some x → (x ≡ Held v → ⊥) → slice_get xs l ≡ Some (Held v) → (b : Bool) → eqb l k ≡ b → slice_get (set xs k y) l ≡ Some (Held v)
held_stays xs k l v x y at other held true is =
    let same : l ≡ k = grind (arith, nat_tests) in
    absurd (other (same_Some x (Held v) (sym at ∙ (ap (slice_get xs) (sym same) ∙ held))))
held_stays xs k l v x y at other held false is = slice_get-set_other xs k l y is ∙ held

free_not_held : (v : ℕ) → Free ≡ Held v → ⊥
free_not_held v e = cc

held_apart : (a b : ℕ) → Held a ≡ Held b → eqb b a ≡ false → ⊥
held_apart a b both e = let same : a ≡ b = cc in absurd (grind (arith, nat_tests, same, e))

-- a launch is taken with the worker's row
pub rows_take_launch : (s t : CoreState) (plans : List PlanView) (rows : List (Option (Unit {0}))) (room w k : ℕ) → HasRows s plans rows room → core_step s (Take w (Launch k)) ≡ Ok t → HasRows t plans (set rows w None) room
rows_take_launch s t plans rows room w k h is =
    let p = take_says s t w (Launch k) is in
    subst (λ (u : CoreState). HasRows u plans (set rows w None) room) (sym p.2) (record {
      size = length-set rows w None ∙ h.size;
      there = λ v known none. there_at p.0 v known none (eqb v w) refl;
      most = h.most;
    })
  where
    there_at : slice_get s.launches k ≡ Some Free → (v : ℕ) → is_out s v ≡ false → HoldsNoLaunch (with_job s (Launch k) (Held w)) v → (b : Bool) → eqb v w ≡ b → slice_get (set rows w None) v ≡ Some (Some tt)
    there_at free v known none true e =
        let same : w ≡ v = grind (arith, nat_tests) in
        absurd (none k (slice_get-set_same s.launches k Free (Held w) free ∙ ap (λ (n : ℕ). Some (Held n)) same))
    there_at free v known none false e =
        slice_get-set_other rows w v None e
        ∙ h.there v known (λ l at. none l (held_stays s.launches k l v Free (Held w) free (free_not_held v) at (eqb l k) refl))

-- a launch is put, and its row is the worker's again
pub rows_put_launch : (s t : CoreState) (plans : List PlanView) (rows : List (Option (Unit {0}))) (room w k : ℕ) → HasRows s plans rows room → core_step s (Put w (Launch k)) ≡ Ok t
    → HasRows t plans (set rows w (Some tt)) room
rows_put_launch s t plans rows room w k h is =
    let p = put_says s t w (Launch k) is in
    subst (λ (u : CoreState). HasRows u plans (set rows w (Some tt)) room) (sym p.2) (record {
      size = length-set rows w (Some tt) ∙ h.size;
      there = λ v known none. there_at p.0 p.1 v known none (eqb v w) refl;
      most = h.most;
    })
  where
    there_at : is_out s w ≡ false → slice_get s.launches k ≡ Some (Held w) → (v : ℕ) → is_out s v ≡ false → HoldsNoLaunch (with_job s (Launch k) Done) v → (b : Bool) → eqb v w ≡ b → slice_get (set rows w (Some tt)) v ≡ Some (Some tt)
    there_at out held v known none true e =
        let same : v ≡ w = grind (arith, nat_tests) in
        let within = row_within s plans rows room w h out in
        ap (slice_get (set rows w (Some tt))) same ∙ slice_get-set_same rows w (get_or rows w None) (Some tt) (slice_get-get_or rows w None within)
    there_at out held v known none false e =
        let other : Held w ≡ Held v → ⊥ = λ both. held_apart w v both e in
        slice_get-set_other rows w v (Some tt) e
        ∙ h.there v known (λ l at. none l (held_stays s.launches k l v (Held w) Done held other at (eqb l k) refl))

-- a worker that retires leaves the others' rows
pub rows_retire : (s t : CoreState) (plans : List PlanView) (rows : List (Option (Unit {0}))) (room w : ℕ) → HasRows s plans rows room → core_step s (Retire w) ≡ Ok t → HasRows t plans rows room
rows_retire s t plans rows room w h is =
    let p = retire_says s t w is in
    subst (λ (u : CoreState). HasRows u plans rows room) (sym p.1) (record {
      size = h.size ∙ sym (length-set s.retired w true);
      there = λ v known none. there_at p.0 v known none (eqb v w) refl;
      most = h.most;
    })
  where
    there_at : is_out s w ≡ false → (v : ℕ) → is_out (without_worker s w) v ≡ false → HoldsNoLaunch (without_worker s w) v → (b : Bool) → eqb v w ≡ b → slice_get rows v ≡ Some (Some tt)
    there_at in_s v known none true e =
        let same : v ≡ w = grind (arith, nat_tests) in
        let out : is_out (without_worker s w) v ≡ true = ap (λ (o : Option Bool). unwrap_or o true) (ap (slice_get (set s.retired w true)) same ∙ slice_get-set_same s.retired w false true (not_out s w in_s)) in
        let both : true ≡ false = sym out ∙ known in
        absurd (cc)
    there_at out v known none false e =
        let in_s : is_out s v ≡ false = ap (λ (o : Option Bool). unwrap_or o true) (sym (slice_get-set_other s.retired w v true e)) ∙ known in
        h.there v in_s (λ l at. none l (slice_get-map (freed w) s.launches l ∙ (ap (option_map (freed w)) at ∙ ap (λ (b : Bool). Some (cond b Free (Held v))) e)))
