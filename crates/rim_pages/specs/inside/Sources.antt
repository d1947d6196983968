-- The pages of an item, as they are found. This project's choice.
use Rattle.std.specs.Prelude.{◌+◌, ◌^◌, ◌<◌, ◌≤◌}
use Rattle.page_jobs.specs.declared.range.KeyRange.{KeyRange}
use Rattle.rim_desc.specs.declared.page.TheConstants.{PAGE_SIZE}

-- neighbouring pages that an item may have
abbrev pub IsUsable : KeyRange → Type 0
IsUsable r = 0 < r.count → (r.first.lead < PAGE_SIZE) × (r.first.number + r.count ≤ 2 ^ 52)
