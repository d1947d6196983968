-- What each put gives. This project's choice: a page's own value, and a launch's value from the values of pages that
-- were put before its take.
use Rattle.std.specs.Prelude.{ℕ, ◌<◌, ◌==◌, if◌then◌else◌, List, [], ◌∷◌, length, map, Option, Some, None, slice_index_or}
use Rattle.std.specs.List.{All, Contains, filter_map}
use Rattle.job_core.specs.declared.job.JobId.{JobId}
use Rattle.job_core.specs.declared.job.JobId.TheVariants.{Page, Launch}
use Rattle.job_core.specs.declared.job.Event.{Event}
use Rattle.job_core.specs.declared.job.Event.TheVariants.{Take, Put, Retire}

-- each page's value, the pages of each launch's row, and what a launch makes of its row
pub record Makes : Type 0 where
  pub page : ℕ → List ℕ
  pub keys : ℕ → List ℕ
  pub fold : ℕ → List (List ℕ) → List ℕ

-- each page's value that was put, and the row of each launch's last take
pub record Seen : Type 0 where
  pub put : ℕ → Option (List ℕ)
  pub rows : ℕ → List (List ℕ)

abbrev pub nothing_seen : Seen
nothing_seen = record { put = λ j. None; rows = λ l. [] }

abbrev pub seen_after : Makes → Seen → Event → Seen
seen_after m seen (Take w (Page j)) = seen
seen_after m seen (Take w (Launch l)) = record { put = seen.put; rows = λ k. if k == l then filter_map seen.put (m.keys l) else seen.rows k }
seen_after m seen (Put w (Page j)) = record { put = λ k. if k == j then Some (m.page j) else seen.put k; rows = seen.rows }
seen_after m seen (Put w (Launch l)) = seen
seen_after m seen (Retire w) = seen

-- the value of each put, in order
abbrev pub values_from : Makes → Seen → List Event → List (JobId × List ℕ)
values_from m seen [] = []
values_from m seen (Take w job ∷ es) = values_from m (seen_after m seen (Take w job)) es
values_from m seen (Put w (Page j) ∷ es) = (Page j, m.page j) ∷ values_from m (seen_after m seen (Put w (Page j))) es
values_from m seen (Put w (Launch l) ∷ es) = (Launch l, m.fold l (seen.rows l)) ∷ values_from m seen es
values_from m seen (Retire w ∷ es) = values_from m seen es

abbrev pub values : Makes → List Event → List (JobId × List ℕ)
values m es = values_from m nothing_seen es

-- a job's own value: a launch's is made of the values of all its pages
abbrev pub own_value : Makes → JobId → List ℕ
own_value m (Page j) = m.page j
own_value m (Launch l) = m.fold l (map m.page (m.keys l))

-- each launch needs all pages of its row
abbrev pub NeedsHold : Makes → List (List ℕ) → Type 0
NeedsHold m needs = (l : ℕ) → l < length needs → All (Contains (slice_index_or needs l [])) (m.keys l)
