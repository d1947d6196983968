use Rattle.std.proofs.Common.{rules, ◌≡◌, ◌∙◌, ap, List, None}
use Rattle.std.specs.List.{flat_map}
use Rattle.page_jobs.specs.Ranges.{range_keys}
use Rattle.std.proofs.Common.{◌+◌, false, get_or, is_lt}
use Rattle.page_jobs.specs.Key.{key_cmp}
use Rattle.page_jobs.specs.contracts.page.PageKeyOrd.TheImpl.{ghosts as order}
use Rattle.page_jobs.proofs.FreshPagesOfItems.{fresh_ranges}
use Rattle.page_jobs.specs.declared.page.PageKey.{PageKey}
use Rattle.page_jobs.proofs.FreshPagesOfItems.{fresh-distinct, fresh-end, fresh-next}
use Rattle.page_jobs.proofs.range.distinct_ranges.Goals as goal

-- the order of keys that the sort goes by
by_key : (a b : PageKey) → is_lt (order.cmp a b) ≡ false → is_lt (key_cmp a b) ≡ false
by_key a b falls = search rules

pub loop-end-init : goal.loop-end-init
loop-end-init c = search rules

pub loop-end-preserved : goal.loop-end-preserved
loop-end-preserved c = fresh-next _ _ _ _ _ _ _ c.loop-end.invariant c.loop-end-test.true c.fresh_range.ensures c.in_ok-push.ensures.items

pub returns : goal.returns
returns c =
    ap (flat_map range_keys) (fresh-end _ _ _ _ c.loop-end.invariant c.loop-end-test.false)
    ∙ ap (λ (ends : List PageKey). flat_map range_keys (fresh_ranges None ends)) c.deref-end-items.ensures.value
    ∙ fresh-distinct _ _ c.sort_unstable.ensures.permutation
    (λ k d low high. by_key (get_or c.sort_unstable.new.self.items (k + 1) d) (get_or c.sort_unstable.new.self.items k d)
    (c.sort_unstable.ensures.sorted k d low high))
