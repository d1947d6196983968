-- The pages of items, taken in the order of their ends, that no item before has. This project's choice.
use Rattle.std.specs.Prelude.{ℕ, ◌-◌, Bool, Option, Some, None, if◌then◌else◌}
use Rattle.std.specs.Ordering.{is_eq}
use Rattle.page_jobs.specs.Key.{key_cmp}
use Rattle.page_jobs.specs.Ranges.{with_number}
use Rattle.page_jobs.specs.declared.page.PageKey.{PageKey}
use Rattle.page_jobs.specs.declared.range.KeyRange.{KeyRange}

-- whether two keys are of pages of one item
abbrev pub is_item : PageKey → PageKey → Bool
is_item a b = is_eq (key_cmp (with_number a 0) (with_number b 0))

-- the number of the first page that is not a page of the item before
abbrev pub fresh_from : Option PageKey → PageKey → ℕ
fresh_from None end = 0
fresh_from (Some last) end = if is_item last end then last.number else 0

abbrev pub fresh_range : Option PageKey → PageKey → KeyRange
fresh_range last end = record { first = with_number end (fresh_from last end); count = end.number - fresh_from last end }
