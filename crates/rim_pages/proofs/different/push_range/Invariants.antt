use Rattle.std.proofs.Common.{◌≡◌, ◌++◌, map}
use Rattle.std.specs.List.{range_with_len}
use Rattle.page_jobs.specs.Page.{page_named, page_view}
use Rattle.page_jobs.specs.Ranges.{with_number}
use Rattle.rim_pages.proofs.different.push_range.Given as goal

abbrev pub invariant-loop-index : goal.invariant-loop-index
invariant-loop-index l =
    map page_view l.pages.items ≡ map page_view l.initial.pages.items
    ++ map (page_named (λ source. l.bytes)) (map (with_number l.range.first) (range_with_len l.range.first.number l.index))
