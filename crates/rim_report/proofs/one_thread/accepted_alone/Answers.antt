use Rattle.std.specs.Prelude.{is_err}
use Rattle.std.specs.List.{list_any}
use Rattle.std.proofs.Common.{◌≡◌, ◌∙◌, ℕ, List, ap, ap₂, length, map, subst, sym, true, Ok}
use Rattle.std.specs.List.{All}
use Rattle.std.proofs.lemmas.List.{length-map}
use Rattle.page_jobs.specs.Key.{IsRising}
use Rattle.page_jobs.specs.Page.{page_view}
use Rattle.page_jobs.specs.Table as table
use Rattle.page_jobs.specs.declared.page.Page.{Page}
use Rattle.launch_plan.specs.Links.{PlanView, keys_of}
use Rattle.launch_plan.specs.Rows.{has_all, value_in}
use Rattle.rim_desc.specs.declared.measurement.Measurement.{Measurement}
use Rattle.rim_accepted.specs.Lines.{lines_with, seen}
use Rattle.rim_accepted.specs.Outcomes.{IsLaidOut, OutcomesView}
use Rattle.rim_accepted.proofs.OutcomesInTurn.{refused-are}
use Rattle.rim_report.specs.Report.{report_with}
use Rattle.rim_report.specs.inside.Unknown.{unknown_outcome, with_rims}
use Rattle.rim_report.proofs.ChainsAreRims.{all-have, found-pages, outcomes-is, report-is, rising-pages}
use Rattle.rim_report.proofs.one_thread.accepted_alone.Goals as goal

pub hashed-requires : goal.hashed-requires
hashed-requires c =
    let v : OutcomesView = c.args.accepted.now in
    subst (λ (pages : List Page). IsRising (table.page_keys_of (map page_view pages))) (sym c.deref.ensures.value)
    (rising-pages v.files v.release.launches _ c.in_ok-pages.ensures)

pub chains-requires : goal.chains-requires
chains-requires c =
    let v : OutcomesView = c.args.accepted.now in
    let whole : IsLaidOut v = c.outcomes-laid_out.ensures.own in
    let own = subst table.IsTable c.table.view_is c.table.invariant in
    let pages = c.in_ok-table.ensures.pages ∙ ap (map page_view) c.deref.ensures.value
    ∙ (found-pages v.files v.release.launches _ c.in_ok-pages.ensures).0 in
    subst (λ (plans : List PlanView). All (λ p. has_all c.in_ok-table.table (keys_of p.links) ≡ true) plans) (sym c.deref-2.ensures.value)
    (all-have v.files v.release c.in_ok-table.table whole.0 whole.1 own pages c.in_ok-table.ensures.full _ c.in_ok-plans.ensures)

pub returns-clause-report : goal.returns-clause-report
returns-clause-report c =
    let v : OutcomesView = c.args.accepted.now in
    let rims : List Measurement = c.in_ok-rims.rims.items in
    let whole : IsLaidOut v = c.outcomes-laid_out.ensures.own in
    let own = subst table.IsTable c.table.view_is c.table.invariant in
    let values = c.in_ok-rims.ensures ∙ ap (map (value_in c.in_ok-table.table)) c.deref-2.ensures.value in
    let pages = c.in_ok-table.ensures.pages ∙ ap (map page_view) c.deref.ensures.value in
    let outcomes : c.deref-4.result.now ≡ with_rims (map unknown_outcome v.launches) rims
    = c.deref-4.ensures.value ∙ c.set_rims.ensures
    ∙ ap₂ with_rims (c.in_ok-outcomes.ensures ∙ ap (map unknown_outcome) c.outcomes-laid_out.ensures.value) c.deref-3.ensures.value in
    let count : c.len.result ≡ length (map page_view c.in_ok-pages.pages.items)
    = c.len.ensures ∙ sym c.deref.ensures.len ∙ ap length c.deref.ensures.value ∙ sym (length-map c.in_ok-pages.pages.items page_view) in
    report-is v c.in_ok-table.table (map page_view c.in_ok-pages.pages.items) c.in_ok-plans.plans.items rims whole c.in_ok-pages.ensures c.in_ok-plans.ensures
    own pages c.in_ok-table.ensures.full values
    ∙ ap (λ (text : List ℕ). Ok text) (sym (c.in_ok-text.ensures ∙ ap₂ report_with (ap₂ lines_with c.launches.ensures outcomes) count))

pub returns-clause-launches : goal.returns-clause-launches
returns-clause-launches c =
    let v : OutcomesView = c.args.accepted.now in
    let rims : List Measurement = c.in_ok-rims.rims.items in
    let whole : IsLaidOut v = c.outcomes-laid_out.ensures.own in
    let own = subst table.IsTable c.table.view_is c.table.invariant in
    let values = c.in_ok-rims.ensures ∙ ap (map (value_in c.in_ok-table.table)) c.deref-2.ensures.value in
    let pages = c.in_ok-table.ensures.pages ∙ ap (map page_view) c.deref.ensures.value in
    ap (map seen) (c.set_rims.ensures
    ∙ ap₂ with_rims (c.in_ok-outcomes.ensures ∙ ap (map unknown_outcome) c.outcomes-laid_out.ensures.value) c.deref-3.ensures.value)
    ∙ outcomes-is v c.in_ok-table.table (map page_view c.in_ok-pages.pages.items) c.in_ok-plans.plans.items rims whole c.in_ok-pages.ensures
    c.in_ok-plans.ensures own pages c.in_ok-table.ensures.full values

pub returns-clause-refused : goal.returns-clause-refused
returns-clause-refused c =
    let v : OutcomesView = c.args.accepted.now in
    c.has_refused.ensures
    ∙ ap (list_any is_err) c.outcomes-laid_out.ensures.value
    ∙ refused-are v.files v.release.launches v.launches c.outcomes-laid_out.ensures.own.2
