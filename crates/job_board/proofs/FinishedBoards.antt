-- Where all jobs are done each launch has a value, and the values are those of the plans.
use Rattle.std.proofs.Common.{◌≡◌, ℕ, suc, ◌+◌, ◌<◌, true, false, List, [], ◌∷◌, ◌++◌, length, get_or, set, map, take, Option, Some, None, refl}
use Rattle.std.proofs.Common.{sym, ap, ◌∙◌, arith}
use Rattle.std.specs.Prelude.{is_some}
use Rattle.std.specs.List.{list_all, slice_get}
use Rattle.std.specs.Option.{option_map}
use Rattle.std.proofs.lemmas.Bool.{and_parts, true≢false}
use Rattle.std.proofs.lemmas.List.{length-map, map-set, take_more, take_more_set}
use Rattle.std.proofs.lemmas.List.Folds.{list_all-map}
use Rattle.std.proofs.lemmas.List.Sums.{AllPass-from_list_all}
use Rattle.std.proofs.lemmas.Option.{get_or_from_slice_get, slice_get-map, slice_get_within}
use Rattle.rim_desc.specs.declared.measurement.Measurement.{Measurement}
use Rattle.launch_plan.specs.Links.{PlanView}
use Rattle.launch_plan.specs.Rows.{IsFull, value_in}
use Rattle.job_core.specs.declared.job.JobState.{JobState}
use Rattle.job_core.specs.declared.job.JobState.TheVariants.{Free}
use Rattle.job_board.specs.Board.{AreValuesOf, BoardView, IsBoard}
use Rattle.job_core.specs.Jobs.{is_done, is_over}
use Rattle.job_board.proofs.EventsKeepBoards.{results_are, slot_filled}
use Rattle.job_core.proofs.CountsOfJobs.{all_done_count}

-- where all is done, the book is the number of pages
pub over_count : (b : BoardView) → IsBoard b → is_over b.core ≡ true → b.book ≡ length b.table.pages
over_count b k over =
    let p = and_parts (list_all is_done b.core.pages) (list_all is_done b.core.launches) over in
    omega (arith, all_done_count b.core.pages p.0, k.booked, k.slots)

-- all slots are filled
over_full : (b : BoardView) → IsBoard b → is_over b.core ≡ true → IsFull b.table
over_full b k over = λ j lt.
    slot_filled b.table b.core.pages j k.filled
    (AllPass-from_list_all is_done b.core.pages (and_parts (list_all is_done b.core.pages) (list_all is_done b.core.launches) over).0 j Free
    (omega (arith, lt, k.slots)))

-- where all launches are done, none is without a value
none_open : (given : List (Option Measurement)) (xs : List JobState) (j : ℕ) → map is_some given ≡ map is_done xs → list_all is_done xs ≡ true
    → slice_get given j ≡ Some None → ⊥
none_open given xs j same all at =
    let some : slice_get (map is_done xs) j ≡ Some false =
    sym (ap (λ bs. slice_get bs j) same) ∙ (slice_get-map is_some given j ∙ ap (option_map is_some) at) in
    let all' : list_all (λ b. b) (map is_done xs) ≡ true = list_all-map (λ b. b) is_done xs ∙ all in
    let done = AllPass-from_list_all (λ b. b) (map is_done xs) all' j false (slice_get_within (map is_done xs) j false some) in
    true≢false (sym done ∙ get_or_from_slice_get (map is_done xs) j false false some)

-- each launch has a value
pub over_given : (b : BoardView) (l : ℕ) → IsBoard b → is_over b.core ≡ true → slice_get b.results l ≡ Some None → ⊥
over_given b l k over at =
    none_open b.results b.core.launches l k.given (and_parts (list_all is_done b.core.pages) (list_all is_done b.core.launches) over).1 at

values_by : (f : PlanView → List ℕ) (plans : List PlanView) (values : List Measurement) → length plans ≡ length values
    → ((l : ℕ) (p : PlanView) (m : Measurement) → slice_get plans l ≡ Some p → slice_get (map Some values) l ≡ Some (Some m) → m.bytes ≡ f p)
    → map (λ m. m.bytes) values ≡ map f plans
values_by f [] [] size own = refl
values_by f [] (m ∷ values) size own = absurd (omega (arith, size))
values_by f (p ∷ plans) [] size own = absurd (omega (arith, size))
values_by f (p ∷ plans) (m ∷ values) size own =
    let size' : length plans ≡ length values = omega (arith, size) in
    rw (own 0 p m refl refl, values_by f plans values size' (λ l q u. own (suc l) q u)) refl

-- the values are those of the plans, with the digests of all pages
pub over_values : (b : BoardView) (values : List Measurement) → IsBoard b → is_over b.core ≡ true → map Some values ≡ b.results
    → AreValuesOf b.table.pages b.plans values
over_values b values k over same =
    let size : length b.plans ≡ length values = omega (arith, k.plans, results_are b k, ap length same, length-map values Some) in
    record {
      table = b.table;
      own = k.table;
      same = refl;
      full = over_full b k over;
      each = values_by (value_in b.table) b.plans values size
          (λ l p m plan at. k.own l p m plan (ap (λ (os : List (Option Measurement)). slice_get os l) (sym same) ∙ at));
    }

-- one value more is copied
pub copied_more : (given : List (Option Measurement)) (values : List Measurement) (n : ℕ) (m : Measurement) → length values ≡ length given → n < length values
    → get_or given n None ≡ Some m
    → take n (map Some values) ≡ take n given → take (n + 1) (map Some (set values n m)) ≡ take (n + 1) given
copied_more given values n m size lt at before =
    let lt' : n < length given = omega (arith, lt, size) in
    let lt'' : n < length (map Some values) = omega (arith, lt, length-map values Some) in
    ap (take (n + 1)) (map-set Some values n m)
    ∙ (take_more_set (map Some values) n (Some m) lt''
    ∙ (ap (λ ys. ys ++ Some m ∷ []) before ∙ (ap (λ y. take n given ++ y ∷ []) (sym at) ∙ sym (take_more given n None lt'))))
