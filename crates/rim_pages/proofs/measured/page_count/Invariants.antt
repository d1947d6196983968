use Rattle.std.proofs.Common.{◌≡◌, ◌*◌, ◌+◌, ◌≤◌, sum_by}
use Rattle.std.proofs.Math.ListN.{drop}
use Rattle.rim_pages.proofs.measured.page_count.Given as goal

-- what was counted, and what is left
abbrev pub invariant-loop-range : goal.invariant-loop-range
invariant-loop-range l = (l.count ≤ l.range-index * 18446744073709551615)
    × (l.count + sum_by (λ r. r.count) (drop l.range-index l.ranges) ≡ sum_by (λ r. r.count) l.ranges)
