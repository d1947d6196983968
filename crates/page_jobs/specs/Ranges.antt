-- Pages of items, given by the key after the last page of each. This project's choice.
use Rattle.std.specs.Prelude.{ℕ, List, map}
use Rattle.std.specs.List.{range_with_len}
use Rattle.page_jobs.specs.declared.page.PageKey.{PageKey}
use Rattle.page_jobs.specs.declared.range.KeyRange.{KeyRange}

-- the key of a page of the same item, by its number
abbrev pub with_number : PageKey → ℕ → PageKey
with_number key n = record key { number = n }

-- the keys of all pages of an item, where this one is after the last of them
abbrev pub keys_before : PageKey → List PageKey
keys_before end = map (with_number end) (range_with_len 0 end.number)

-- the keys of neighbouring pages
abbrev pub range_keys : KeyRange → List PageKey
range_keys r = map (with_number r.first) (range_with_len r.first.number r.count)
