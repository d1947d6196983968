-- Pages that are kept as ranges. This project's choice: the pages of data of one call are one range.
use Rattle.std.specs.Prelude.{◌≡◌, ℕ, ◌+◌, ◌-◌, ◌*◌, ◌/◌, ◌%◌, ◌<◌, ◌≤◌, true, ◌&&◌, nat_lt, Bool, List, [], ◌∷◌, ◌++◌}
use Rattle.std.specs.BTreeMap.{insert_entry}
use Rattle.std.specs.List.{list_all}
use Rattle.std.specs.Ordering.{nat_cmp}
use Rattle.rmm_model.specs.Blocks.{granules, is_multiple}
use Rattle.rmm_model.specs.Space.{is_ram}
use Rattle.rim_desc.specs.declared.page.TheConstants.{PAGE_SIZE}

-- the pages of some ranges
abbrev pub pages_of : List (ℕ × ℕ) → List ℕ
pages_of [] = []
pages_of (r ∷ rs) = granules ((r.1 - r.0) / PAGE_SIZE) r.0 ++ pages_of rs

-- these ranges, and one of `count` pages from `base` on
abbrev pub with_pages : List (ℕ × ℕ) → ℕ → ℕ → List (ℕ × ℕ)
with_pages ranges base count = insert_entry nat_cmp ranges base (base + PAGE_SIZE * count)

-- whether each range is one or more whole pages
abbrev pub are_pages : List (ℕ × ℕ) → Bool
are_pages ranges = list_all (λ r. is_multiple PAGE_SIZE r.0 && is_multiple PAGE_SIZE r.1 && nat_lt r.0 r.1) ranges

-- all from x on and below `top`, which is the end of a page, is RAM
pub record IsRamTo (ram : List (ℕ × ℕ)) (x top : ℕ) : Type 0 where
  pub past : x < top
  pub whole : top % PAGE_SIZE ≡ 0
  pub all : (y : ℕ) → x ≤ y → y < top → is_ram ram y ≡ true
