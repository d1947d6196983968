use Rattle.std.proofs.Common.{◌++◌, ◌∙◌, [], ◌∷◌, ap, sym}
use Rattle.rtt_plan.specs.declared.act.Act.{Act}
use Rattle.rtt_plan.specs.inside.Undone.{undone}
use Rattle.rtt_plan.proofs.TablesTakenBack.{undone-none, undone-other, undone-table}
use Rattle.rtt_plan.proofs.missing.take_back.Goals as goal

pub loop-act-preserved-in-Table : goal.loop-act-preserved-in-Table
loop-act-preserved-in-Table c =
    ap (undone c.pop.new.self.items) c.remove.ensures.keys
    ∙ sym (undone-table c.pop.new.self.items c.in-Table.base c.in-Table.level c.loop-act.tables.keys)
    ∙ ap (λ (a : Act). undone (c.pop.new.self.items ++ a ∷ []) c.loop-act.tables.keys) (sym c.in-Table.is)
    ∙ ap (λ acts. undone acts c.loop-act.tables.keys) (sym c.in-Some.ensures.items)
    ∙ c.loop-act.invariant

pub loop-act-preserved : goal.loop-act-preserved
loop-act-preserved c =
    sym (undone-other c.pop.new.self.items c.in-Some.act c.loop-act.tables.keys c.in_default-act.not-Table)
    ∙ ap (λ acts. undone acts c.loop-act.tables.keys) (sym c.in-Some.ensures.items)
    ∙ c.loop-act.invariant

pub returns : goal.returns
returns c = sym (undone-none c.loop-act.acts.items c.loop-act.tables.keys (sym c.loop-act.acts.ok.0 ∙ c.in_default.ensures.cases.0)) ∙ c.loop-act.invariant
