use Rattle.std.proofs.Common.{◌≡◌, refl, ap, ◌∙◌, arith}
use Rattle.std.proofs.lemmas.Option.{slice_get-get_or, slice_get-map}
use Rattle.std.specs.Prelude.{option_map}
use Rattle.page_jobs.specs.Page.{page_view}
use Rattle.page_jobs.proofs.side_by_side.lane.Goals as goal

pub returns-clause-size : goal.returns-clause-size
returns-clause-size c =
    let pages = c.args.pages.now in
    let i = c.min.result in
    let there = slice_get-map page_view pages i ∙ ap (option_map page_view) (slice_get-get_or pages i c.index-pages-min.result (omega arith)) in
    (c.requires.whole i _ (omega arith) there).1

pub returns-clause-own : goal.returns-clause-own
returns-clause-own c low =
    let pages = c.args.pages.now in
    let same : c.min.result ≡ c.args.k = omega arith in
    let there = slice_get-map page_view pages c.args.k ∙ ap (option_map page_view) (slice_get-get_or pages c.args.k c.index-pages-min.result (omega arith)) in
    rw (there, same) refl
