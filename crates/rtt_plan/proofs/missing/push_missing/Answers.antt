use Rattle.std.proofs.Common.{◌≡◌, ◌+◌, ◌∙◌, ap, true, false, refl, sym}
use Rattle.rmm_model.specs.Space.{made}
use Rattle.rmm_model.specs.declared.table.Table.{Table}
use Rattle.rmm_model.proofs.OneMoreInSpace.{made-contains}
use Rattle.rtt_plan.specs.inside.Undone.{undone}
use Rattle.rtt_plan.proofs.TablesTakenBack.{undone-made, undone-said}
use Rattle.rtt_plan.proofs.MissingTablesAdded.{adding-end, adding-made, adding-new, adding-start}
use Rattle.rtt_plan.proofs.missing.push_missing.Goals.{then-not-contains+in_ok-push+in_ok-insert, else-not-contains}
use Rattle.rtt_plan.proofs.missing.push_missing.Goals as goal

pub loop-above-init : goal.loop-above-init
loop-above-init c = record { adding = adding-start _ _ _ _ _; undone_so_far = refl }

pub loop-above-preserved : goal.loop-above-preserved
loop-above-preserved c =
    let table : Table = record { level = c.loop-above.above + 1; base = c.table_base.result } in
    let found = made-contains c.loop-above.tables.keys table in
    elim c.if-not-contains.branch [
      | then-not-contains+in_ok-push+in_ok-insert w ↦
          let out : made c.loop-above.tables.keys table.level table.base ≡ false = sym found ∙ sym c.contains.ensures ∙ w.if-not-contains.true in
          rw (w.acts-is, w.tables-is, w.in_ok-push.ensures.items, w.in_ok-insert.ensures.keys) (record {
            adding = rw c.table_base.ensures.value
                (adding-new _ _ _ _ _ _ _ _ c.loop-above-test.true (rw c.table_base.ensures.value at out) c.loop-above.invariant.adding);
            undone_so_far = undone-made c.loop-above.acts.items table c.loop-above.tables.keys out ∙ c.loop-above.invariant.undone_so_far;
          })
      | else-not-contains w ↦
          let there : made c.loop-above.tables.keys table.level table.base ≡ true = sym found ∙ sym c.contains.ensures ∙ w.if-not-contains.false in
          rw (w.acts-is, w.tables-is) (record {
            adding = adding-made _ _ _ _ _ _ _ _ c.loop-above-test.true (rw c.table_base.ensures.value at there) c.loop-above.invariant.adding;
            undone_so_far = c.loop-above.invariant.undone_so_far;
          })
    ]

pub returns-in_err-push-clause-undone : goal.returns-in_err-push-clause-undone
returns-in_err-push-clause-undone c = ap (λ acts. undone acts c.loop-above.tables.keys) c.in_err-push.ensures.items ∙ c.loop-above.invariant.undone_so_far

pub returns-in_err-insert-clause-undone : goal.returns-in_err-insert-clause-undone
returns-in_err-insert-clause-undone c =
    let table : Table = record { level = c.loop-above.above + 1; base = c.table_base.result } in
    let out : made c.loop-above.tables.keys table.level table.base ≡ false = sym (made-contains c.loop-above.tables.keys table) ∙ sym c.contains.ensures ∙ c.if-not-contains.true in
    ap (undone c.push.new.self.items) c.in_err-insert.ensures.err
    ∙ ap (λ acts. undone acts c.loop-above.tables.keys) c.in_ok-push.ensures.items
    ∙ undone-said c.loop-above.acts.items table c.loop-above.tables.keys out
    ∙ c.loop-above.invariant.undone_so_far

pub returns-clause-undone : goal.returns-clause-undone
returns-clause-undone c = c.loop-above.invariant.undone_so_far

pub returns-clause-tables : goal.returns-clause-tables
returns-clause-tables c = (adding-end _ _ _ _ _ _ _ _ c.loop-above-test.false c.loop-above.invariant.adding).0

pub returns-clause-acts : goal.returns-clause-acts
returns-clause-acts c = (adding-end _ _ _ _ _ _ _ _ c.loop-above-test.false c.loop-above.invariant.adding).1
