use Rattle.std.specs.Prelude.{is_err}
use Rattle.std.specs.List.{Contains, list_any}
use Rattle.std.proofs.Common.{◌≡◌, ◌∙◌, ℕ, List, ap, ap₂, arith, length, map, subst, sym, true, Ok, Result}
use Rattle.std.specs.List.{All}
use Rattle.std.proofs.lemmas.List.{length-map}
use Rattle.page_jobs.specs.Key.{IsRising}
use Rattle.page_jobs.specs.Page.{page_view}
use Rattle.page_jobs.specs.Table as table
use Rattle.page_jobs.specs.declared.page.Page.{Page}
use Rattle.launch_plan.specs.Links.{PlanView, keys_of}
use Rattle.launch_plan.specs.Rows.{value_in}
use Rattle.rim_desc.specs.declared.measurement.Measurement.{Measurement}
use Rattle.rim_accepted.specs.Lines.{lines_with, seen}
use Rattle.rim_accepted.specs.Outcomes.{IsLaidOut, OutcomesView}
use Rattle.rim_accepted.specs.declared.audit_fault.AuditFault.{AuditFault}
use Rattle.rim_accepted.proofs.OutcomesInTurn.{refused-are}
use Rattle.rim_report.specs.Report.{is_crew, report_with}
use Rattle.rim_report.specs.inside.Unknown.{unknown_outcome, with_rims}
use Rattle.page_jobs.specs.declared.page.PageKey.{PageKey}
use Rattle.rim_report.proofs.ChainsAreRims.{all-known, found-keys, outcomes-is, report-is, rising-pages}
use Rattle.rim_report.proofs.LengthOfReport.{chains-size, report-size, unknown-size}
use Rattle.rim_report.proofs.workers.measure_accepted.Goals as goal

pub run-requires-clause-rising : goal.run-requires-clause-rising
run-requires-clause-rising g c = λ lifetimes outlives.
    let v : OutcomesView = c.args.accepted.now in
    subst (λ (pages : List Page). IsRising (table.page_keys_of (map page_view pages))) (sym c.deref.ensures.value)
    (rising-pages v.files v.release.launches _ c.in_ok-pages.ensures)

pub run-requires-clause-keys : goal.run-requires-clause-keys
run-requires-clause-keys g c = λ lifetimes outlives.
    let v : OutcomesView = c.args.accepted.now in
    let plans : List PlanView = c.in_ok-plans.plans.items in
    subst (λ (pages : List Page). All (λ (p : PlanView). All (Contains (table.page_keys_of (map page_view pages))) (keys_of p.links)) c.deref-2.result.now)
    (sym c.deref.ensures.value)
    (subst (λ (ps : List PlanView). All (λ (p : PlanView). All (Contains (table.page_keys_of (map page_view c.in_ok-pages.pages.items)))
    (keys_of p.links)) ps) (sym c.deref-2.ensures.value)
    (subst (λ (keys : List PageKey). All (λ (p : PlanView). All (Contains keys) (keys_of p.links)) plans)
    (sym (found-keys v.files v.release.launches _ c.in_ok-pages.ensures))
    (all-known v.files v.release plans c.in_ok-plans.ensures)))

pub fill-filled-requires : goal.fill-filled-requires
fill-filled-requires g c =
    let v : OutcomesView = c.args.accepted.now in
    let rims : List Measurement = c.deref-3.result.now in
    let unknown : List (Result Measurement AuditFault) = map unknown_outcome v.launches in
    let values = c.in_ok-counted.ensures.rims in
    let each : map (λ m. m.bytes) rims ≡ map (value_in values.table) c.deref-2.result.now
    = ap (map (λ (m : Measurement). m.bytes)) c.deref-3.ensures.value ∙ values.each in
    let count : c.len-3.result ≡ c.len-2.result = c.len-3.ensures ∙ sym c.len-2.ensures in
    let lines : lines_with c.launches.result.now (with_rims c.in_ok-pending_report.pending_report.outcomes.items rims) ≡ lines_with v.release.launches
    (with_rims unknown rims)
    = ap₂ lines_with c.launches.ensures (ap (λ (os : List (Result Measurement AuditFault)). with_rims os rims) c.in_ok-pending_report.ensures.outcomes) in
    let same : length (report_with (lines_with c.launches.result.now (with_rims c.in_ok-pending_report.pending_report.outcomes.items rims)) c.len-3.result)
    ≡ length (report_with (lines_with v.release.launches unknown) c.len-2.result)
    = ap length (ap₂ report_with lines count)
    ∙ report-size v.release.launches unknown rims c.len-2.result (unknown-size v.launches) (chains-size values.table c.deref-2.result.now rims each) in
    omega (arith, same, c.in_ok-pending_report.ensures.room)

pub returns-clause-report : goal.returns-clause-report
returns-clause-report g c =
    let v : OutcomesView = c.args.accepted.now in
    let rims : List Measurement = c.deref-3.result.now in
    let whole : IsLaidOut v = c.outcomes.ensures.own in
    let values = c.in_ok-counted.ensures.rims in
    let each : map (λ m. m.bytes) rims ≡ map (value_in values.table) c.in_ok-plans.plans.items
    = ap (map (λ (m : Measurement). m.bytes)) c.deref-3.ensures.value ∙ values.each ∙ ap (map (value_in values.table)) c.deref-2.ensures.value in
    let count : c.len-3.result ≡ length (map page_view c.in_ok-pages.pages.items)
    = omega (arith, c.len-3.ensures, length-map c.in_ok-pages.pages.items page_view, c.in_ok-pages.pages.ok.0) in
    let lines : lines_with c.launches.result.now (with_rims c.in_ok-pending_report.pending_report.outcomes.items rims)
    ≡ lines_with v.release.launches (with_rims (map unknown_outcome v.launches) rims)
    = ap₂ lines_with c.launches.ensures (ap (λ (os : List (Result Measurement AuditFault)). with_rims os rims) c.in_ok-pending_report.ensures.outcomes) in
    let crew : is_crew c.args.workers ≡ true = c.requires.crew in
    rw crew (report-is v values.table (map page_view c.in_ok-pages.pages.items) c.in_ok-plans.plans.items rims whole c.in_ok-pages.ensures c.in_ok-plans.ensures
    values.own (values.same ∙ ap (map page_view) c.deref.ensures.value) values.full each
    ∙ ap (λ (text : List ℕ). Ok text) (sym (c.fill-filled.ensures.text ∙ ap₂ report_with lines count)))

pub returns-clause-launches : goal.returns-clause-launches
returns-clause-launches g c =
    let v : OutcomesView = c.args.accepted.now in
    let rims : List Measurement = c.deref-3.result.now in
    let whole : IsLaidOut v = c.outcomes.ensures.own in
    let values = c.in_ok-counted.ensures.rims in
    let each : map (λ m. m.bytes) rims ≡ map (value_in values.table) c.in_ok-plans.plans.items
    = ap (map (λ (m : Measurement). m.bytes)) c.deref-3.ensures.value ∙ values.each ∙ ap (map (value_in values.table)) c.deref-2.ensures.value in
    ap (map seen) (c.fill-filled.ensures.outcomes
    ∙ ap (λ (os : List (Result Measurement AuditFault)). with_rims os rims) c.in_ok-pending_report.ensures.outcomes)
    ∙ outcomes-is v values.table (map page_view c.in_ok-pages.pages.items) c.in_ok-plans.plans.items rims whole c.in_ok-pages.ensures c.in_ok-plans.ensures
    values.own (values.same ∙ ap (map page_view) c.deref.ensures.value) values.full each

pub returns-clause-refused : goal.returns-clause-refused
returns-clause-refused g c =
    let v : OutcomesView = c.args.accepted.now in
    c.has_refused.ensures
    ∙ ap (list_any is_err) c.outcomes.ensures.value
    ∙ refused-are v.files v.release.launches v.launches c.outcomes.ensures.own.2
