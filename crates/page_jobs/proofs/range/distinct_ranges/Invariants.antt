use Rattle.std.proofs.Common.{◌≡◌, ◌++◌, None}
use Rattle.std.proofs.Math.ListN.{drop}
use Rattle.page_jobs.proofs.FreshPagesOfItems.{fresh_ranges}
use Rattle.page_jobs.proofs.range.distinct_ranges.Given as goal

-- the ranges that are left are those of the ends that are left
abbrev pub invariant-loop-end : goal.invariant-loop-end
invariant-loop-end l = l.ranges.items ++ fresh_ranges l.last (drop l.end-index l.end-items) ≡ fresh_ranges None l.end-items
