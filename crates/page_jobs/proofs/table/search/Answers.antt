use Rattle.std.proofs.Common.{◌∙◌, rules}
use Rattle.std.proofs.lemmas.Fn.{always_returns_same}
use Rattle.page_jobs.specs.Key.{key_cmp}
use Rattle.page_jobs.specs.Page.{page_view}
use Rattle.page_jobs.proofs.SearchByKey.{search-slot_of}
use Rattle.page_jobs.proofs.table.search.Goals as goal

pub returns : goal.returns
returns c =
    let facts = c.binary_search_by.ensures in
    let compared = facts.position (λ p. key_cmp p.key c.args.key.now) (always_returns_same _ _ _ (λ a r g called. (search rules, search rules))) in
    c.ok.ensures.value ∙ search-slot_of page_view c.args.pages.now c.requires c.args.key.now c.binary_search_by.result facts.bound compared
