-- Stretches of addresses, and the gaps between them. This project's choice.
use Rattle.std.specs.Prelude.{◌≡◌, ℕ, ◌<◌, ◌≤◌, Bool, true, not, ◌&&◌, IsPermutation, IsSortedByKey, min, max, nat_le, nat_lt, List, [], ◌∷◌, ◌++◌, map, if◌then◌else◌}
use Rattle.std.specs.List.{list_any}
use Rattle.std.specs.Ordering.{nat_cmp}
use Rattle.rim_launch.specs.declared.item.Region.{Region}
use Rattle.map_rows.specs.declared.rows.Row.{Row}
use Rattle.map_rows.specs.declared.stretches.Stretch.{Stretch}

-- the addresses from one on and below another, if there are any
abbrev pub piece : ℕ → ℕ → List Stretch
piece base end = if nat_lt base end then record { base = base; end = end } ∷ [] else []

-- the gaps that stretches leave from an address on and below `end`
abbrev pub gaps_of : ℕ → ℕ → List Stretch → List Stretch
gaps_of at end [] = piece at end
gaps_of at end (s ∷ ss) = piece at (min s.base end) ++ gaps_of (max at s.end) end ss

-- the pages of a row
abbrev pub row_pages : Row → Stretch
row_pages row = record { base = row.base; end = row.top }

abbrev pub region_stretch : Region → Stretch
region_stretch r = record { base = r.base; end = r.end }

-- the last address at which one of them ends
abbrev pub last_end : List Stretch → ℕ
last_end [] = 0
last_end (s ∷ ss) = max s.end (last_end ss)

-- the same stretches, by rising bases
pub record AreRising (stretches rising : List Stretch) : Type 0 where
  pub same : IsPermutation stretches rising
  pub sorted : IsSortedByKey (λ s. s.base) nat_cmp rising

-- the gaps between some stretches that rise
abbrev pub gaps_between : List Stretch → List Stretch
gaps_between [] = []
gaps_between (s ∷ ss) = gaps_of s.base (last_end (s ∷ ss)) (s ∷ ss)

-- the gaps between the regions of RAM
pub record IsBetween (ram : List Region) (found : List Stretch) : Type 0 where
  pub regions : List Stretch
  pub rising : AreRising (map region_stretch ram) regions
  pub gaps : found ≡ gaps_between regions

-- ---- what gaps are

-- whether an address is in a stretch, and in one of some
abbrev pub holds : ℕ → Stretch → Bool
holds a s = nat_le s.base a && nat_lt a s.end

abbrev pub is_in : List Stretch → ℕ → Bool
is_in ss a = list_any (holds a) ss

-- an address between two others is in a gap between stretches that rise, exactly where it is in none of these
abbrev pub GapsAreTheRest : Type 0
GapsAreTheRest = (base end a : ℕ) (stretches rising : List Stretch) → AreRising stretches rising → base ≤ a → a < end
    → is_in (gaps_of base end rising) a ≡ not (is_in stretches a)

-- and each gap is between these two
abbrev pub GapsAreInside : Type 0
GapsAreInside = (base end a : ℕ) (rising : List Stretch) → is_in (gaps_of base end rising) a ≡ true → (base ≤ a) × (a < end)
