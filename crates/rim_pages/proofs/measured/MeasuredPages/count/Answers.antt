use Rattle.std.proofs.Common.{◌∙◌, List, ap, length, sum_by, sym}
use Rattle.page_jobs.specs.Key.{rising_keys}
use Rattle.page_jobs.specs.declared.page.PageKey.{PageKey}
use Rattle.rim_pages.proofs.DifferentPages.{keys-counted}
use Rattle.rim_pages.proofs.measured.MeasuredPages.count.Goals as goal

pub returns : goal.returns
returns c =
    c.page_count.ensures ∙ ap (λ ranges. sum_by (λ r. r.count) ranges) c.deref.ensures.value
    ∙ sym (keys-counted _ c.in_ok-ranges.ranges.items c.in_ok-ranges.ensures) ∙ ap (λ (keys : List PageKey). length (rising_keys keys)) c.self.view_is
