-- What launches wait for stays right as jobs change.
use Rattle.std.proofs.Common.{◌≡◌, ℕ, ◌+◌, false, List, length, set, Option, Some, None, refl, sym, ap, ◌∙◌, subst, inl, inr}
use Rattle.std.specs.Prelude.{◌⊎◌}
use Rattle.std.specs.List.{slice_get}
use Rattle.std.proofs.lemmas.List.{length-set, get_or-set_same, get_or-set_other}
use Rattle.std.proofs.lemmas.Bool.{cases_eq}
use Rattle.std.proofs.lemmas.Option.{get_or_from_slice_get, slice_get_within}
use Rattle.job_core.specs.declared.job.JobId.{JobId}
use Rattle.job_core.specs.declared.job.JobId.TheVariants.{Page, Launch}
use Rattle.job_core.specs.declared.job.JobState.{JobState}
use Rattle.job_core.specs.declared.job.JobState.TheVariants.{Free, Held}
use Rattle.job_core.specs.declared.reaches.PageGroup.{PageGroup}
use Rattle.job_core.specs.declared.reaches.Cursor.{Cursor}
use Rattle.job_core.specs.Jobs.{CoreState, is_done, is_page_done, state_of, with_page}
use Rattle.job_core.specs.inside.Notes.{Moves}
use Rattle.job_core.specs.inside.Reaches.{AreGroups, Waits}
use Rattle.job_core.proofs.ReachesAfterPuts.{at_same}

-- no page is done or undone
waits_same : (xs ys : List JobState) (gs : List PageGroup) (cs : List Cursor) (lefts : List ℕ) → length ys ≡ length xs → ((p : ℕ) → is_page_done ys p ≡ is_page_done xs p) → Waits xs gs cs lefts → Waits ys gs cs lefts
waits_same xs ys gs cs lefts size same w = record {
  groups = subst (λ (n : ℕ). AreGroups n (length lefts) gs) (sym size) w.groups;
  size = w.size;
  at = λ i g c gat cat. at_same xs ys g c (λ k lt. same (g.first + k)) (w.at i g c gat cat);
  left = w.left;
}

page_open : (xs : List JobState) (j : ℕ) (x y : JobState) → slice_get xs j ≡ Some y → is_done y ≡ false → is_done x ≡ false → (p : ℕ) → is_page_done (set xs j x) p ≡ is_page_done xs p
page_open xs j x y at old new p = by (cases_eq p j)
  where
    by : (p ≡ j) ⊎ (p ≡ j → ⊥) → is_page_done (set xs j x) p ≡ is_page_done xs p
    by (inl same) =
        let now : is_page_done (set xs j x) j ≡ false = ap is_done (get_or-set_same xs j x Free (slice_get_within xs j y at)) ∙ new in
        let before : is_page_done xs j ≡ false = ap is_done (get_or_from_slice_get xs j y Free at) ∙ old in
        ap (is_page_done (set xs j x)) same ∙ (now ∙ sym (ap (is_page_done xs) same ∙ before))
    by (inr other) = ap is_done (get_or-set_other xs j p x Free other)

old_open : (s : CoreState) (w : ℕ) (job : JobId) (x : JobState) (held : Option JobId) → Moves s w job x held → (y : JobState) × (state_of s job ≡ Some y) × (is_done y ≡ false)
old_open s w job x None m = (Held w, m.0, refl)
old_open s w job x (Some taken) m = (Free, m.0, refl)

-- a job that was not done, and is not done then either
pub waits_write : (s : CoreState) (w : ℕ) (job : JobId) (x : JobState) (held : Option JobId) (gs : List PageGroup) (cs : List Cursor) (lefts : List ℕ) → Moves s w job x held → is_done x ≡ false
    → Waits s.pages gs cs lefts → Waits (with_page job x s.pages) gs cs lefts
waits_write s w (Launch l) x held gs cs lefts m open_ waits = waits
waits_write s w (Page j) x held gs cs lefts m open_ waits =
    let old = old_open s w (Page j) x held m in
    waits_same s.pages (set s.pages j x) gs cs lefts (length-set s.pages j x) (page_open s.pages j x old.0 old.1 old.2 open_) waits
