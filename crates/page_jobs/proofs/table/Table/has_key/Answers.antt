use Rattle.std.proofs.Common.{◌≡◌, ℕ, ◌<◌, ◌∙◌, ap, sym, length, map, get_or, List, Some}
use Rattle.std.specs.Prelude.{option_map, slice_get}
use Rattle.std.proofs.lemmas.Option.{slice_get-get_or, slice_get-map}
use Rattle.page_jobs.specs.Key.{IsRising}
use Rattle.page_jobs.specs.Page.{page_view}
use Rattle.page_jobs.specs.Table.{TableView, page_keys_of, slot_of}
use Rattle.page_jobs.specs.declared.page.Page.{Page}
use Rattle.page_jobs.specs.declared.page.PageKey.{PageKey}
use Rattle.page_jobs.proofs.SearchByKey.{slot-page}
use Rattle.page_jobs.proofs.table.Table.has_key.Goals as goal

slot-at : (pages : List Page) (slot : ℕ) (page : Page) (key : PageKey) → IsRising (page_keys_of (map page_view pages)) → slot < length pages
    → page ≡ get_or pages slot page → page.key ≡ key → slot_of (map page_view pages) key ≡ Some slot
slot-at pages slot page key rising inside read same =
    let at : slice_get (map page_view pages) slot ≡ Some (page_view page) =
    slice_get-map page_view pages slot ∙ ap (λ o. option_map page_view o) (slice_get-get_or pages slot page inside ∙ ap Some (sym read)) in
    ap (slot_of (map page_view pages)) (sym same) ∙ slot-page (map page_view pages) rising slot (page_view page) at

pub returns-in-Some : goal.returns-in-Some
returns-in-Some c = λ same.
    let lookup = c.in-Some.ensures.lookup in
    ap (λ (t : TableView). slot_of t.pages c.args.key.now) (sym c.self.view_is)
    ∙ slot-at c.self.inside.pages.now c.args.slot c.in-Some.page.now c.args.key.now c.self.invariant.rising lookup.3.0 lookup.1 (c.is_key.ensures.0 same)
