-- The entries by which a region of RAM is set, each the largest block that it may be. That a region is
-- set by largest blocks is this project's choice; the sizes of blocks are DEN0137's, "RTT levels".
use Rattle.std.specs.Prelude.{ℕ, zero, suc, ◌+◌, ◌-◌, ◌/◌, ◌&&◌, ◌==◌, nat_le, Bool, List, if◌then◌else◌}
use Rattle.std.specs.List.{filter}
use Rattle.rmm_model.specs.Blocks.{down, granules, size}
use Rattle.rim_desc.specs.declared.page.TheConstants.{PAGE_SIZE}

-- whether the block of a level that holds x lies wholly in the region from base to end
abbrev pub fits : ℕ → ℕ → ℕ → ℕ → Bool
fits base end l x = nat_le base (down (size l) x) && nat_le (down (size l) x + size l) end

-- of the levels l to l + n the first whose block of x lies in the region; the last where none does
unfoldable pub first_fit : ℕ → ℕ → ℕ → ℕ → ℕ → ℕ
first_fit base end zero l x = l
first_fit base end (suc n) l x = if fits base end l x then l else first_fit base end n (suc l) x

-- the level of the largest block of x in the region, from the least allowed level on
abbrev pub block_level : ℕ → ℕ → ℕ → ℕ → ℕ
block_level base end least_level x = first_fit base end (3 - least_level) least_level x

-- whether x is the first address of its own block
abbrev pub is_first : ℕ → ℕ → ℕ → ℕ → Bool
is_first base end least_level x = down (size (block_level base end least_level x)) x == x

-- the pages from x to end that are the first of their own block, rising
abbrev pub entries_from : ℕ → ℕ → ℕ → ℕ → List ℕ
entries_from base end least_level x = filter (is_first base end least_level) (granules ((end - x) / PAGE_SIZE) x)

-- the entries of a region
abbrev pub entries : ℕ → ℕ → ℕ → List ℕ
entries base end least_level = entries_from base end least_level base
