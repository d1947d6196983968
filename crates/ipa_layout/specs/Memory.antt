-- Which pages are RAM. A page has to be in one region wholly; the pages of an item may be in several.
-- This project's choice.
use Rattle.std.specs.Prelude.{ℕ, ◌+◌, ◌*◌, List, Option, Bool, not, ◌&&◌, nat_le}
use Rattle.std.specs.List.{find, list_any, range_with_len}
use Rattle.rim_launch.specs.declared.item.Region.{Region}
use Rattle.rim_desc.specs.declared.page.TheConstants.{PAGE_SIZE}

-- whether a region holds the page of this number wholly
abbrev pub holds : ℕ → Region → Bool
holds page r = nat_le r.base (PAGE_SIZE * page) && nat_le (PAGE_SIZE * page + PAGE_SIZE) r.end

-- whether some region does
abbrev pub is_held : List Region → ℕ → Bool
is_held ram page = list_any (holds page) ram

-- the first of `count` pages from `first` on that no region holds
unfoldable pub first_unheld : List Region → ℕ → ℕ → Option ℕ
first_unheld ram first count = find (λ page. not (is_held ram page)) (range_with_len first count)
