-- A new board keeps what every board keeps, and has its rows.
use Rattle.std.proofs.Common.{◌≡◌, ◌<◌, ◌≤◌, ℕ, zero, suc, Bool, false, cond, List, [], ◌∷◌, length, get_or, map, replicate, Option, subst, Some, None, refl, sym, ap, ◌∙◌, arith}
use Rattle.std.specs.Prelude.{is_some}
use Rattle.std.specs.List.{All, slice_get}
use Rattle.std.proofs.lemmas.List.{length-replicate}
use Rattle.std.proofs.lemmas.Option.{same_Some, slice_get-get_or, slice_get_within}
use Rattle.rim_desc.specs.declared.measurement.Measurement.{Measurement}
use Rattle.page_jobs.specs.Table.{IsTable, TableView}
use Rattle.launch_plan.specs.Links.{PlanView, keys_of}
use Rattle.job_core.specs.declared.job.JobState.TheVariants.{Free}
use Rattle.job_core.specs.Jobs.{IsCore, is_done, opening}
use Rattle.job_board.specs.Board.{IsBoard, NeedsOwn}
use Rattle.job_tasks.specs.inside.Rows.{HasRows}
use Rattle.job_core.proofs.OneJobChanges.{not_out}
use Rattle.job_core.proofs.CountsOfJobs.{sum_by-replicate_zero}
use Rattle.job_board.proofs.HistoryGoesOn.{history_empty}

-- what holds of each plan holds of the plan of a number
pub plan_fits : (plans : List PlanView) (room : ℕ) → All (λ (p : PlanView). length (keys_of p.links) ≤ room) plans
    → (l : ℕ) (p : PlanView) → slice_get plans l ≡ Some p → length (keys_of p.links) ≤ room
plan_fits plans room all l p at =
    let within = slice_get_within plans l p at in
    let same : get_or plans l p ≡ p = same_Some (get_or plans l p) p (sym (slice_get-get_or plans l p within) ∙ at) in
    subst (λ (q : PlanView). length (keys_of q.links) ≤ room) same (all l p within)

same_for_each : {X : Type 0} (x : X) (n k : ℕ) → k < n → slice_get (replicate n x) k ≡ Some x
same_for_each x zero k lt = absurd (omega (arith, lt))
same_for_each x (suc n) zero lt = refl
same_for_each x (suc n) (suc k) lt = same_for_each x n k (omega (arith, lt))

abbrev there : Option (Unit {0})
there = Some tt

pub rows_new : (workers pages : ℕ) (needs : List (List ℕ)) (plans : List PlanView) (room : ℕ) → All (λ (p : PlanView). length (keys_of p.links) ≤ room) plans
    → HasRows (opening workers pages needs) plans (replicate workers (Some tt)) room
rows_new workers pages needs plans room all = record {
  size = length-replicate workers (Some tt) ∙ sym (length-replicate workers false);
  there = λ w known none.
      let within = slice_get_within (replicate workers false) w false (not_out (opening workers pages needs) w known) in
      same_for_each there workers w (omega (arith, within, length-replicate workers false));
  most = plan_fits plans room all;
}

-- ---- the board

abbrev no_digest : ℕ → Option Measurement
no_digest n = None

none_filled : (n : ℕ) → map is_some (replicate n (no_digest n)) ≡ map is_done (replicate n Free)
none_filled zero = refl
none_filled (suc n) = ap (λ (bs : List Bool). false ∷ bs) (none_filled n)

none_there : (n l : ℕ) (m : Measurement) → slice_get (replicate n (no_digest n)) l ≡ Some (Some m) → ⊥
none_there zero l m at = cc
none_there (suc n) zero m at = cc
none_there (suc n) (suc l) m at = none_there n l m at

pub board_new : (workers : ℕ) (t : TableView) (plans : List PlanView) (needs : List (List ℕ)) → IsCore (opening workers (length t.pages) needs) → IsTable t → t.digests ≡ replicate (length t.pages) None
    → NeedsOwn t plans needs
    → IsBoard (record { core = opening workers (length t.pages) needs; history = []; table = t; plans = plans; results = replicate (length plans) None; book = 0 })
board_new workers t plans needs core table empty own = record {
  core = core;
  history = history_empty workers (length t.pages) needs;
  table = table;
  slots = sym (length-replicate (length t.pages) Free);
  filled = ap (map is_some) empty ∙ none_filled (length t.pages);
  booked = sum_by-replicate_zero (λ x. cond (is_done x) 1 0) (length t.pages) Free refl;
  plans = omega (arith, own.size, length-replicate (length needs) Free);
  needs = own.all;
  given = none_filled (length plans) ∙ ap (λ (n : ℕ). map is_done (replicate n Free)) (sym own.size);
  own = λ l p m plan at. absurd (none_there (length plans) l m at);
}
