use Rattle.std.proofs.Common.{◌≡◌, ◌∙◌, ap, sym}
use Rattle.std.specs.Prelude.{Some, None, slice_get}
use Rattle.std.proofs.lemmas.Option.{slice_get_past}
use Rattle.rmi_list.proofs.StepsAreListed.{found-at, nothing-named}
use Rattle.rmi_list.proofs.draft.Draft.step.Goals as goal

pub returns-in-None : goal.returns-in-None
returns-in-None c =
    let none : slice_get c.args.self.now.launch.now.ram c.in-Ram.number ≡ None = ap (λ xs. slice_get xs c.in-Ram.number) (sym c.ram.ensures.value) ∙ slice_get_past _ _ c.in-None.ensures.lookup.3 in
    rw c.in-Ram.is (nothing-named c.args.self.now _ _ c.requires.pool none)

pub returns-in-Some-get : goal.returns-in-Some-get
returns-in-Some-get c =
    let own : slice_get c.args.self.now.placed.now.items c.in-Item.number ≡ Some c.in-Some-get.item.now =
    found-at _ c.items.result.now c.in-Item.number _ _ c.items.ensures c.in-Some-get.ensures.lookup.0 c.in-Some-get.ensures.lookup.1 in
    rw (c.in-Item.is, own) c.item.ensures

pub returns-in-None-get : goal.returns-in-None-get
returns-in-None-get c =
    let none : slice_get c.args.self.now.placed.now.items c.in-Item.number ≡ None = ap (λ xs. slice_get xs c.in-Item.number) (sym c.items.ensures) ∙ slice_get_past _ _ c.in-None-get.ensures.lookup.3 in
    rw c.in-Item.is (nothing-named c.args.self.now _ _ c.requires.pool none)

pub returns-in-Some-get-2 : goal.returns-in-Some-get-2
returns-in-Some-get-2 c =
    let own : slice_get c.args.self.now.placed.now.recs c.in-Rec.number ≡ Some c.in-Some-get-2.rec.now =
    found-at _ c.recs.result.now c.in-Rec.number _ _ c.recs.ensures c.in-Some-get-2.ensures.lookup.0 c.in-Some-get-2.ensures.lookup.1 in
    rw (c.in-Rec.is, own) c.rec.ensures

pub returns-in-None-get-2 : goal.returns-in-None-get-2
returns-in-None-get-2 c =
    let none : slice_get c.args.self.now.placed.now.recs c.in-Rec.number ≡ None = ap (λ xs. slice_get xs c.in-Rec.number) (sym c.recs.ensures) ∙ slice_get_past _ _ c.in-None-get-2.ensures.lookup.3 in
    rw c.in-Rec.is (nothing-named c.args.self.now _ _ c.requires.pool none)
