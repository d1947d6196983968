use Rattle.std.proofs.Common.{◌≡◌, ◌+◌, ◌∙◌, refl, arith}
use Rattle.std.proofs.lemmas.Result.{err_from_is_err_and}
use Rattle.list_model.specs.Entries.{delegated}
use Rattle.rmi_list.specs.Listed.{opening_entries}
use Rattle.rmi_list.specs.declared.draft.Draft.{Draft}
use Rattle.rmi_list.proofs.BeginOfList.{first-descriptor-refused, first-grows, first-tables-refused}
use Rattle.rmi_list.proofs.listing.open.Goals as goal

pub new-requires-clause-width : goal.new-requires-clause-width
new-requires-clause-width c = c.args.config.width

pub new-requires-clause-deep : goal.new-requires-clause-deep
new-requires-clause-deep c = c.args.config.level

pub start_count-requires : goal.start_count-requires
start_count-requires c = c.args.config.width

pub returns-in_err-delegate_all-clause-fault : goal.returns-in_err-delegate_all-clause-fault
returns-in_err-delegate_all-clause-fault c =
    let p = err_from_is_err_and c.from_residual.result c.from_residual.ensures.1 in
    let first : Draft = record {
      launch = c.args.launch;
      config = c.args.config;
      placed = c.args.placed;
      tables = c.new.result;
      spans = c.new-2.result;
      taken = 0;
      num_recs = 0;
    } in
    rw (p.1, p.2) (first-tables-refused first _ _ c.start_count.ensures.value refl c.in_err-delegate_all.ensures)

pub returns-in_err-rd-clause-fault : goal.returns-in_err-rd-clause-fault
returns-in_err-rd-clause-fault c =
    let p = err_from_is_err_and c.from_residual-in_err-rd.result c.from_residual-in_err-rd.ensures.1 in
    rw (p.1, p.2) (first-descriptor-refused _ _ _ _ c.start_count.ensures.value refl c.in_ok-delegate_all.ensures c.in_err-rd.ensures.lists)

pub returns-clause-entries : goal.returns-clause-entries
returns-clause-entries c =
    let grows = first-grows _ _ _ _ _ _ c.start_count.ensures.value refl c.in_ok-delegate_all.ensures
    c.in_ok-rd.ensures.lists c.in_ok-rd.ensures.value c.in_ok-push.ensures in
    grows.entries ∙ rw c.new-2.ensures.items refl

pub returns-clause-spans : goal.returns-clause-spans
returns-clause-spans c =
    let grows = first-grows _ _ _ _ _ _ c.start_count.ensures.value refl c.in_ok-delegate_all.ensures
    c.in_ok-rd.ensures.lists c.in_ok-rd.ensures.value c.in_ok-push.ensures in
    grows.spans (rw c.new-2.ensures.items (λ k d lt. absurd (omega arith)))

pub returns-clause-progress : goal.returns-clause-progress
returns-clause-progress c =
    let grows = first-grows _ _ _ _ _ _ c.start_count.ensures.value refl c.in_ok-delegate_all.ensures
    c.in_ok-rd.ensures.lists c.in_ok-rd.ensures.value c.in_ok-push.ensures in
    let none : 0 + delegated (opening_entries c.args.config) ≡ delegated (opening_entries c.args.config) = omega arith in
    rw (grows.tables, grows.taken, grows.num_recs, c.new.ensures, none) refl
