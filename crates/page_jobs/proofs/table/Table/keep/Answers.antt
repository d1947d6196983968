use Rattle.std.proofs.Common.{arith, length, ◌∙◌, ap}
use Rattle.std.specs.Prelude.{slice_get}
use Rattle.std.proofs.lemmas.Option.{slice_get_within}
use Rattle.page_jobs.specs.Page.{page_view}
use Rattle.page_jobs.specs.Table.{TableView}
use Rattle.page_jobs.proofs.OneMoreDigest.{filled_table}
use Rattle.page_jobs.proofs.table.Table.keep.Goals as goal

pub index_mut-requires : goal.index_mut-requires
index_mut-requires c =
    omega (
      arith,
      slice_get_within c.args.self.now.pages c.args.slot (page_view c.args.hashed.page) c.requires.0,
      ap (λ (t : TableView). length t.pages) c.self.view_is,
      c.self.invariant.size,
      c.self.inside.digests.ok.0,
    )

pub invariant_of-self : goal.invariant_of-self
invariant_of-self c =
    filled_table _ c.args.slot (page_view c.args.hashed.page) c.args.hashed.digest c.self.invariant
    (ap (λ (t : TableView). slice_get t.pages c.args.slot) c.self.view_is ∙ c.requires.0) c.args.hashed.own
