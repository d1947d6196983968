use Rattle.std.proofs.Common.{rules, slice_index_or, ◌≡◌, sym, ap, subst, ◌∙◌, inl, inr, arith}
use Rattle.std.proofs.lemmas.Bool.{cases_lt}
use Rattle.std.proofs.lemmas.Option.{same_Some, slice_get-get_or, slice_get-map}
use Rattle.std.specs.Prelude.{option_map}
use Rattle.page_jobs.specs.Page.{page_view}
use Rattle.page_jobs.specs.inside.Lanes.{IsWhole}
use Rattle.page_jobs.proofs.side_by_side.whole_pages.Goals as goal

pub loop-i-preserved : goal.loop-i-preserved
loop-i-preserved c k p lt there =
    elim (cases_lt k c.loop-i.i) [
      | inl low ↦ c.loop-i.invariant k p low there
      | inr high ↦
          let pages = c.args.pages.now in
          let same : k ≡ c.loop-i.i = omega arith in
          let here = slice_get-map page_view pages c.loop-i.i
          ∙ ap (option_map page_view) (slice_get-get_or pages c.loop-i.i c.index-pages-i.result (omega arith)) in
          let whole : IsWhole c.args.algo (page_view (slice_index_or pages c.loop-i.i c.index-pages-i.result)) = search rules in
          subst (IsWhole c.args.algo) (same_Some _ p (sym here ∙ (rw same at there))) whole
    ]
