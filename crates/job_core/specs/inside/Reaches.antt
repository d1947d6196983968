-- What launches wait for: the first pages of groups. This project's choice.
use Rattle.std.specs.Prelude.{◌≡◌, ℕ, ◌+◌, ◌<◌, ◌≤◌, ◌^◌, Bool, true, false, ◌==◌, if◌then◌else◌, List, [], ◌∷◌, ◌++◌, length, drop, Some, count_by, sum_by, slice_get, slice_index, slice_index_or, slice_set}
use Rattle.std.specs.List.{flat_map, list_all, range_with_len}
use Rattle.job_core.specs.declared.job.JobId.{JobId}
use Rattle.job_core.specs.declared.job.JobId.TheVariants.{Page, Launch}
use Rattle.job_core.specs.declared.job.JobState.{JobState}
use Rattle.job_core.specs.declared.job.JobState.TheVariants.{Done}
use Rattle.job_core.specs.declared.reaches.Reach.{Reach}
use Rattle.job_core.specs.declared.reaches.PageGroup.{PageGroup}
use Rattle.job_core.specs.declared.reaches.Cursor.{Cursor}
use Rattle.job_core.specs.Jobs.{is_page_done}

-- ---- what a launch needs

-- the pages that a launch needs of a group
abbrev pub group_needs : ℕ → PageGroup → List ℕ
group_needs l g = flat_map (λ q. if q.launch == l then range_with_len g.first q.count else []) g.reaches.items

abbrev pub reach_needs : List PageGroup → ℕ → List ℕ
reach_needs gs l = flat_map (group_needs l) gs

-- ---- what groups keep

-- a page is one of a group's
abbrev pub IsIn : PageGroup → ℕ → Type 0
IsIn g p = (g.first ≤ p) × (p < g.first + g.count)

-- no two groups have a page in common, and they are in the order of their pages
abbrev pub AreApart : List PageGroup → Type 0
AreApart gs = (i k : ℕ) (g h : PageGroup) → i < k → slice_get gs i ≡ Some g → slice_get gs k ≡ Some h → g.first + g.count ≤ h.first

-- the reaches with the fewest pages come first
abbrev pub AreRising : List Reach → Type 0
AreRising qs = (i k : ℕ) (q r : Reach) → i < k → slice_get qs i ≡ Some q → slice_get qs k ≡ Some r → q.count ≤ r.count

-- how many reaches are a launch's
abbrev pub count_of : ℕ → List Reach → ℕ
count_of l qs = count_by (λ q. q.launch == l) qs

abbrev pub all_of : ℕ → List PageGroup → ℕ
all_of l gs = sum_by (λ g. count_of l g.reaches.items) gs

-- a group of pages and its launches, with numbers below these
pub record IsGroup (pages launches : ℕ) (g : PageGroup) : Type 0 where
  pub within : g.first + g.count ≤ pages
  pub named : (k : ℕ) (q : Reach) → slice_get g.reaches.items k ≡ Some q → (q.launch < launches) × (0 < q.count) × (q.count ≤ g.count)
  pub rising : AreRising g.reaches.items

pub record AreGroups (pages launches : ℕ) (gs : List PageGroup) : Type 0 where
  pub apart : AreApart gs
  pub each : (i : ℕ) (g : PageGroup) → slice_get gs i ≡ Some g → IsGroup pages launches g
  pub few : (l : ℕ) → all_of l gs < 2 ^ 64

-- what is said of the number of the group that has a page, if one has
abbrev pub OfOwnGroup : List PageGroup → ℕ → (ℕ → Type 0) → Type 0
OfOwnGroup gs page Said = (k : ℕ) (g : PageGroup) → slice_get gs k ≡ Some g → IsIn g page → Said k

-- reaches of launches with numbers below one
abbrev pub AreNamed : List Reach → ℕ → Type 0
AreNamed qs launches = (k : ℕ) (q : Reach) → slice_get qs k ≡ Some q → q.launch < launches

-- ---- how far groups are done

-- the reaches from one place up to another have no more pages than are done
abbrev pub AreMet : List Reach → ℕ → ℕ → ℕ → Type 0
AreMet qs done from to = (k : ℕ) (q : Reach) → from ≤ k → k < to → slice_get qs k ≡ Some q → q.count ≤ done

-- those from a place on have more
abbrev pub AreStill : List Reach → ℕ → ℕ → Type 0
AreStill qs done from = (k : ℕ) (q : Reach) → from ≤ k → slice_get qs k ≡ Some q → done < q.count

-- each launch waits for as many fewer as it has reaches from one place up to another
abbrev pub AreFewer : List Reach → ℕ → ℕ → List ℕ → List ℕ → Type 0
AreFewer qs from to old new = (l : ℕ) → slice_index new l + count_of l (drop from qs) ≡ slice_index old l + count_of l (drop to qs)

-- how many of a launch's reaches are not done
abbrev pub left_of : ℕ → List PageGroup → List Cursor → ℕ
left_of l [] cs = 0
left_of l (g ∷ gs) [] = 0
left_of l (g ∷ gs) (c ∷ cs) = count_of l (drop c.met g.reaches.items) + left_of l gs cs

-- just the first pages of a group are done without a gap, and just its first reaches with them
pub record IsAt (pages : List JobState) (g : PageGroup) (c : Cursor) : Type 0 where
  pub within : c.done ≤ g.count
  pub done : (k : ℕ) → k < c.done → is_page_done pages (g.first + k) ≡ true
  pub stops : c.done < g.count → is_page_done pages (g.first + c.done) ≡ false
  pub some : c.met ≤ length g.reaches.items
  pub met : (k : ℕ) (q : Reach) → k < c.met → slice_get g.reaches.items k ≡ Some q → q.count ≤ c.done
  pub still : (k : ℕ) (q : Reach) → c.met ≤ k → slice_get g.reaches.items k ≡ Some q → c.done < q.count

-- each group has its cursor, and each launch waits for as many reaches as are not done
pub record Waits (pages : List JobState) (gs : List PageGroup) (cs : List Cursor) (lefts : List ℕ) : Type 0 where
  pub groups : AreGroups (length pages) (length lefts) gs
  pub size : length cs ≡ length gs
  pub at : (i : ℕ) (g : PageGroup) (c : Cursor) → slice_get gs i ≡ Some g → slice_get cs i ≡ Some c → IsAt pages g c
  pub left : (l : ℕ) → slice_index lefts l ≡ left_of l gs cs

-- a page was put, and cursors and numbers are those from before
abbrev pub HasPut : List JobState → ℕ → List PageGroup → List Cursor → List ℕ → Type 0
HasPut pages page gs cs lefts = (before : List JobState) × Waits before gs cs lefts × (page < length before) × (pages ≡ slice_set before page Done)

abbrev pub HasPutJob : List JobState → JobId → List PageGroup → List Cursor → List ℕ → Type 0
HasPutJob pages (Page page) gs cs lefts = HasPut pages page gs cs lefts
HasPutJob pages (Launch l) gs cs lefts = Waits pages gs cs lefts

-- groups have the pages that launches need: a test that all of a launch's needs pass, the pages of its reaches pass
abbrev pub IsIndex : List (List ℕ) → List PageGroup → Type 0
IsIndex needs gs = (l : ℕ) (f : ℕ → Bool) → list_all f (reach_needs gs l) ≡ list_all f (slice_index_or needs l [])

-- a group for each page, with a reach for each time that a launch's list has it, where this is what launches need so far
pub record IsListed (pages : ℕ) (gs : List PageGroup) (lists : List (List ℕ)) : Type 0 where
  pub size : length gs ≡ pages
  pub single : (k : ℕ) (g : PageGroup) → slice_get gs k ≡ Some g → (g.first ≡ k) × (g.count ≡ 1)
  pub named : (k i : ℕ) (g : PageGroup) (q : Reach) → slice_get gs k ≡ Some g → slice_get g.reaches.items i ≡ Some q → (q.launch < length lists) × (q.count ≡ 1)
  pub counted : (l : ℕ) → all_of l gs ≡ length (slice_index_or lists l [])
  pub index : IsIndex lists gs

-- what one launch more needs was added, the next one after those that were added
abbrev pub AddsList : List PageGroup → ℕ → List ℕ → List PageGroup → Type 0
AddsList old launch list new = (lists : List (List ℕ)) → length lists ≡ launch → IsListed (length old) old lists
    → IsListed (length old) new (lists ++ list ∷ [])
