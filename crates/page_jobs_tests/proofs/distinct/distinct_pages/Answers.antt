use Rattle.std.proofs.Common.{◌≡◌, rules}
use Rattle.std.specs.List.{dedup}
use Rattle.std.specs.List.Sorted.{IsSortedByKey}
use Rattle.std.proofs.lemmas.Fn.{always_returns_same, dedup_same}
use Rattle.page_jobs.specs.Key.{key_cmp}
use Rattle.page_jobs_tests.proofs.SortedKeysOnce.{contains-after, keys-after, one_key, page_key, rising-after}
use Rattle.page_jobs_tests.proofs.distinct.distinct_pages.Goals as goal

in_order : (c : goal.After-dedup_by_key) → IsSortedByKey page_key key_cmp c.sort_unstable_by_key.new.self.items
in_order c = λ k d low high.
    let falls = c.sort_unstable_by_key.ensures.sorted page_key (always_returns_same _ _ _ (λ a r g called. (search rules, search rules))) k d low high in
    search rules

once : (c : goal.After-dedup_by_key) → c.dedup_by_key.new.self.items ≡ dedup (one_key page_key) c.sort_unstable_by_key.new.self.items
once c = dedup_same _ (one_key page_key) _ (λ x y b f' x' y' k. search rules) _ _ c.dedup_by_key.ensures.filtered

pub returns-clause-keys : goal.returns-clause-keys
returns-clause-keys c = keys-after _ _ _ c.sort_unstable_by_key.ensures.permutation (once c) (in_order c)

pub returns-clause-rising : goal.returns-clause-rising
returns-clause-rising c = rising-after _ _ _ c.sort_unstable_by_key.ensures.permutation (once c) (in_order c)

pub returns-clause-kept : goal.returns-clause-kept
returns-clause-kept c = contains-after _ _ _ c.sort_unstable_by_key.ensures.permutation (once c)
