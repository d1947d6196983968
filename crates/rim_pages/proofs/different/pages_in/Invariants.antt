use Rattle.std.proofs.Common.{◌≡◌, map, take}
use Rattle.std.specs.List.{flat_map}
use Rattle.ipa_layout.specs.Files.{bytes_of_files}
use Rattle.page_jobs.specs.Page.{page_named, page_view}
use Rattle.page_jobs.specs.Ranges.{range_keys}
use Rattle.rim_accepted.specs.Outcomes.{place_of}
use Rattle.rim_pages.specs.Pages.{source_bytes}
use Rattle.rim_pages.proofs.different.pages_in.Given as goal

abbrev pub invariant-loop-range : goal.invariant-loop-range
invariant-loop-range l =
    map page_view l.pages.items ≡ map (page_named (source_bytes (bytes_of_files l.files) (map place_of l.outcomes)))
    (flat_map range_keys (take l.range-index l.ranges))
