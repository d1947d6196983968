use Rattle.std.proofs.Common.{◌≡◌, ◌∙◌, arith, false, true, eqb}
use Rattle.std.proofs.lemmas.Bool.Decides.{nat_tests}
use Rattle.rtt_plan.proofs.AcceptedCalls.{data-planned}
use Rattle.rmi_list.specs.Measured.{page_base, page_content}
use Rattle.rmi_list.proofs.StepsAreListed.{item-continues, item-idle, item-refused, pages-room}
use Rattle.rmi_list.proofs.draft.Draft.item.Goals as goal

pub returns-then-item-eq0 : goal.returns-then-item-eq0
returns-then-item-eq0 c =
    let none : eqb c.args.item.now.pages 0 ≡ true = (let e = c.if-item-eq0.true in grind (arith, nat_tests)) in
    item-idle c.args.self.now c.args.number c.args.item.now c.requires.pool none

pub returns-in-Err : goal.returns-in-Err
returns-in-Err c =
    let some : eqb c.args.item.now.pages 0 ≡ false = (let e = c.if-item-eq0.false in grind (arith, nat_tests)) in
    rw (c.of_plan.ensures, c.item_range.ensures) (item-refused c.args.self.now c.args.number c.args.item.now c.in-Err.fault some c.in-Err.ensures.acts)

pub acts-requires : goal.acts-requires
acts-requires c =
    let item = c.args.item.now in
    let planned = data-planned c.args.self.now.tables (page_base item) item.pages c.in-Ok.acts.items c.in-Ok.ensures.acts in
    let few = c.requires.few in
    rw (c.deref.ensures.value ∙ planned.1, c.page_content.ensures)
    (pages-room (page_content item, c.args.number) c.args.self.now.tables.space.start item.pages 0 (page_base item) c.args.self.now.tables.space.tables (omega arith) c.in-Ok.ensures.low)

pub returns : goal.returns
returns c =
    let some : eqb c.args.item.now.pages 0 ≡ false = (let e = c.if-item-eq0.false in grind (arith, nat_tests)) in
    let acts = c.in-Ok.acts.items in
    item-continues c.args.self.now c.acts.new.self c.data_pages.new.self c.args.number c.args.item.now acts c.acts.result c.requires.pool some
    c.in-Ok.ensures.acts c.in-Ok.ensures.after (rw (← c.deref.ensures.value, ← c.page_content.ensures) c.acts.ensures)
