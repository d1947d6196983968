use Rattle.std.proofs.Common.{inr, ◌∙◌, List, ℕ, ap, le-ltb, lt-ltb, map, sym, Ok, Result}
use Rattle.std.specs.List.{flat_map}
use Rattle.ipa_layout.specs.Layout.{PlacedData}
use Rattle.ipa_layout.specs.Files.{bytes_of_files}
use Rattle.page_jobs.specs.Page.{PageView, page_named}
use Rattle.rim_accepted.specs.Outcomes.{place_of}
use Rattle.rim_accepted.specs.declared.audit_fault.AuditFault.{AuditFault}
use Rattle.rim_accepted.proofs.OutcomesInTurn.{places-are}
use Rattle.rim_pages.specs.Pages.{page_keys, source_bytes}
use Rattle.rim_pages.specs.inside.Ends.{outcome_ends}
use Rattle.rim_pages.proofs.DifferentPages.{files-there, found-by-count, keys-found, ranges-usable}
use Rattle.rim_pages.proofs.different.pages.Goals as goal

pub returns-then-count-from : goal.returns-then-count-from
returns-then-count-from c =
    let v = c.args.accepted.now in
    let ends = c.in_ok-ends.ensures ∙ ap (flat_map outcome_ends) c.outcomes-outcomes.ensures.value in
    let found = keys-found v.files v.release.launches v.launches _ _ _ c.outcomes-outcomes.ensures.own.2 ends c.in_ok-ranges.ensures c.deref.ensures.value in
    let over = lt-ltb 1048576 c.page_count-count.result (rw c.from.ensures at c.if-count-from.true) in
    inr (found-by-count v.files v.release.launches c.deref.result.now c.page_count-count.result _ found c.page_count-count.ensures over)

pub pages_in-requires : goal.pages_in-requires
pages_in-requires c =
    let v = c.args.accepted.now in
    let ends = c.in_ok-ends.ensures ∙ ap (flat_map outcome_ends) c.outcomes-outcomes.ensures.value in
    ranges-usable v.files v.release.launches c.deref-2.result.now
    (files-there v.release v.files c.outcomes-outcomes.ensures.own.0 c.outcomes-outcomes.ensures.own.1)
    (keys-found v.files v.release.launches v.launches _ _ _ c.outcomes-outcomes.ensures.own.2 ends c.in_ok-ranges.ensures c.deref-2.ensures.value)

pub returns : goal.returns
returns c =
    let v = c.args.accepted.now in
    let own = c.outcomes-outcomes.ensures.own.2 in
    let ends = c.in_ok-ends.ensures ∙ ap (flat_map outcome_ends) c.outcomes-outcomes.ensures.value in
    let found = keys-found v.files v.release.launches v.launches _ _ _ own ends c.in_ok-ranges.ensures c.deref-2.ensures.value in
    let counted = keys-found v.files v.release.launches v.launches _ _ _ own ends c.in_ok-ranges.ensures c.deref.ensures.value in
    let places = ap (map place_of) c.outcomes-outcomes.ensures.value ∙ places-are v.files v.release.launches v.launches own in
    let few = le-ltb 1048576 c.page_count-count.result (rw c.from.ensures at c.if-count-from.false) in
    found-by-count v.files v.release.launches c.deref.result.now c.page_count-count.result _ counted c.page_count-count.ensures few
    ∙ ap (λ (pages : List PageView). Ok pages) (sym (c.in_ok-pages_in.ensures
    ∙ ap (map (page_named (source_bytes (bytes_of_files c.files.result.now) (map place_of c.outcomes-outcomes.result.now)))) found
    ∙ ap (λ (files : List (List ℕ)). map (page_named (source_bytes files (map place_of c.outcomes-outcomes.result.now)))
    (page_keys v.files v.release.launches)) c.files.ensures
    ∙ ap (λ (ps : List (Result PlacedData AuditFault)). map (page_named (source_bytes v.files ps)) (page_keys v.files v.release.launches)) places))
