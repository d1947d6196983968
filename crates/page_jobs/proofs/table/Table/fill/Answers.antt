use Rattle.std.proofs.Common.{refl, ◌≡◌, Some, ◌∙◌, sym, is_some, false}
use Rattle.std.specs.Prelude.{slice_get}
use Rattle.page_jobs.specs.Page.{page_view}
use Rattle.page_jobs.proofs.OneMoreDigest.{empty_slot}
use Rattle.page_jobs.proofs.table.Table.fill.Goals as goal

pub returns-then-not-is_page-clause-ok : goal.returns-then-not-is_page-clause-ok
returns-then-not-is_page-clause-ok c = tt

pub keep-requires : goal.keep-requires
keep-requires c =
    let page : slice_get c.args.self.now.pages c.args.slot ≡ Some (page_view c.args.hashed.page) = c.if-not-is_page.ensures.0 refl in
    let none : is_some c.index.result.now ≡ false = sym c.is_some.ensures ∙ c.if-is_some.false in
    (page, empty_slot _ c.args.self.now c.args.slot (page_view c.args.hashed.page) c.index.result.now c.self.invariant c.self.view_is page c.index.ensures none)
