-- Groups of pages, from what launches need in the order of its pages. This project's choice.
use Rattle.std.specs.Prelude.{◌≡◌, ◌≢◌, ℕ, ◌+◌, ◌-◌, ◌<◌, ◌≤◌, Bool, ◌==◌, ◌⊎◌, if◌then◌else◌, List, [], ◌∷◌, ◌++◌, length, Some, count_by, slice_get}
use Rattle.std.specs.List.{flat_map, list_all, range_with_len}
use Rattle.job_board.specs.declared.grouping.Stretch.{Stretch}
use Rattle.job_core.specs.declared.reaches.PageGroup.{PageGroup}
use Rattle.job_core.specs.inside.Reaches.{AreApart, IsGroup, all_of, reach_needs}

-- a stretch ends before another, or both begin alike and the other is no shorter
abbrev pub Precedes : Stretch → Stretch → Type 0
Precedes a b = (a.first + a.count ≤ b.first) ⊎ ((a.first ≡ b.first) × (a.count ≤ b.count))

-- a stretch of pages that are there, that comes after some others
pub record Comes (pages launches : ℕ) (before : List Stretch) (s : Stretch) : Type 0 where
  pub within : s.first + s.count ≤ pages
  pub some : 0 < s.count
  pub launch : s.launch < launches
  pub after : (k : ℕ) (a : Stretch) → slice_get before k ≡ Some a → Precedes a s

-- stretches of pages that are there, in the order of their pages
pub record AreStretches (pages launches : ℕ) (ss : List Stretch) : Type 0 where
  pub each : (k : ℕ) (s : Stretch) → slice_get ss k ≡ Some s → (s.first + s.count ≤ pages) × (0 < s.count) × (s.launch < launches)
  pub order : (i k : ℕ) (a s : Stretch) → i < k → slice_get ss i ≡ Some a → slice_get ss k ≡ Some s → Precedes a s

-- the pages of a launch's own stretches
abbrev pub own_pages : ℕ → Stretch → List ℕ
own_pages l s = if s.launch == l then range_with_len s.first s.count else []

-- groups with just these stretches
pub record IsGrouped (pages launches : ℕ) (ss : List Stretch) (gs : List PageGroup) : Type 0 where
  pub apart : AreApart gs
  pub each : (k : ℕ) (g : PageGroup) → slice_get gs k ≡ Some g → IsGroup pages launches g
  pub origin : (k : ℕ) (g : PageGroup) → slice_get gs k ≡ Some g → (i : ℕ) × (a : Stretch) × (slice_get ss i ≡ Some a) × (a.first ≡ g.first) × (a.count ≡ g.count) × (0 < a.count)
  pub counted : (l : ℕ) → all_of l gs ≡ count_by (λ s. s.launch == l) ss
  pub index : (l : ℕ) (f : ℕ → Bool) → list_all f (reach_needs gs l) ≡ list_all f (flat_map (own_pages l) ss)

-- ---- as code makes them

-- groups with just these stretches, where these are in the order of their pages
abbrev pub AreGroupsOf : List Stretch → List PageGroup → Type 0
AreGroupsOf ss gs = (pages launches : ℕ) → AreStretches pages launches ss → IsGrouped pages launches ss gs

-- a stretch was added that comes after the others
abbrev pub AddsStretch : List PageGroup → Stretch → List PageGroup → Type 0
AddsStretch old s new = (pages launches : ℕ) (before : List Stretch) → Comes pages launches before s
    → IsGrouped pages launches before old → IsGrouped pages launches (before ++ s ∷ []) new

abbrev pub IsLast : List PageGroup → PageGroup → Type 0
IsLast gs g = slice_get gs (length gs - 1) ≡ Some g

-- the last group begins with a page
abbrev pub LastBegins : List PageGroup → ℕ → Type 0
LastBegins gs first = (g : PageGroup) × IsLast gs g × (g.first ≡ first)

-- the last group begins with another page, or no group is there
abbrev pub NoneBegins : List PageGroup → ℕ → Type 0
NoneBegins gs first = (g : PageGroup) → IsLast gs g → g.first ≢ first
