use Rattle.std.proofs.Common.{◌+◌, refl, arith, slice_index_or}
use Rattle.std.proofs.lemmas.List.{drop_all}
use Rattle.std.proofs.lemmas.Result.{err_from_is_err_and}
use Rattle.rtt_plan.specs.declared.act.Act.TheVariants.{Table}
use Rattle.list_model.specs.inside.Acts.{act_entries, pages_in}
use Rattle.rmi_list.specs.inside.Acts.{item_of}
use Rattle.rmi_list.proofs.EntryByEntry.{act_here, acts_left, going-ends, going-on, going-refused, going-starts, next-act, room-here}
use Rattle.rmi_list.proofs.draft.Draft.acts.Goals as goal

pub loop-act-init : goal.loop-act-init
loop-act-init c = (going-starts _ _, c.requires)

pub act-requires : goal.act-requires
act-requires c = (room-here (item_of c.args.item) c.loop-act.page c.args.acts.now c.loop-act.act-index (Table 0 0) c.loop-act-test.true c.loop-act.invariant.1).0

pub returns-in_err-page : goal.returns-in_err-page
returns-in_err-page c =
    let p = err_from_is_err_and c.from_residual.result c.from_residual.ensures.1 in
    let acts = c.args.acts.now in
    let i = c.loop-act.act-index in
    let item = item_of c.args.item in
    let act = slice_index_or acts i (Table 0 0) in
    rw (p.1, p.2) (going-refused c.args.self.now c.loop-act.self _ _ (act_here c.loop-act.self item c.loop-act.page act)
    (acts_left c.args.self.now item (c.loop-act.page + pages_in item act) acts (i + 1)) c.in_err-page.field-0.0
    c.loop-act.invariant.0 (next-act _ _ item c.loop-act.page acts i (Table 0 0) c.loop-act-test.true) c.in_err-page.ensures.lists)

pub loop-act-preserved : goal.loop-act-preserved
loop-act-preserved c =
    let acts = c.args.acts.now in
    let i = c.loop-act.act-index in
    let item = item_of c.args.item in
    let act = slice_index_or acts i (Table 0 0) in
    rw c.in_ok-page.ensures.next (
      going-on c.args.self.now c.loop-act.self c.act.new.self _ _ (act_here c.loop-act.self item c.loop-act.page act)
          (acts_left c.args.self.now item (c.loop-act.page + pages_in item act) acts (i + 1))
          c.loop-act.invariant.0 (next-act _ _ item c.loop-act.page acts i (Table 0 0) c.loop-act-test.true) c.in_ok-page.ensures.lists,
      (room-here item c.loop-act.page acts i (Table 0 0) c.loop-act-test.true c.loop-act.invariant.1).1,
    )

pub returns : goal.returns
unfolding act_entries
returns c = going-ends _ _ _ _ c.loop-act.invariant.0 (rw (drop_all c.loop-act.act-index c.args.acts.now (omega arith)) refl)
