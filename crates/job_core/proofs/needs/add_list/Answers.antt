use Rattle.std.proofs.Common.{◌<◌, ◌++◌, ◌∷◌, [], ℕ, List, length, get_or, take, refl, subst, arith}
use Rattle.std.proofs.lemmas.List.{take_all, take_more}
use Rattle.std.proofs.lemmas.Option.{slice_get-get_or}
use Rattle.job_core.specs.declared.reaches.PageGroup.{PageGroup}
use Rattle.job_core.specs.inside.Reaches.{IsListed}
use Rattle.job_core.proofs.GroupsOfListedNeeds.{listed_more, listed_push, pushed}
use Rattle.job_core.proofs.needs.add_list.Goals as goal

pub loop-page-init : goal.loop-page-init
loop-page-init c = λ lists size is. listed_more (length c.args.groups.now) lists c.args.groups.now is

pub loop-page-preserved : goal.loop-page-preserved
loop-page-preserved c = λ lists size is.
    let gs = c.loop-page.groups in
    let p = get_or c.args.list.now c.loop-page.page-index 0 in
    let g = get_or gs p c.index-groups-page.result in
    let h : PageGroup = record { first = g.first; count = g.count; reaches = c.push.new.self } in
    let lt : p < length gs = omega (arith, c.requires.within c.loop-page.page-index 0 c.loop-page-test.true, c.loop-page.auto.groups) in
    let at = slice_get-get_or gs p c.index-groups-page.result lt in
    let xs = take c.loop-page.page-index c.args.list.now in
    let before = c.loop-page.invariant lists size is in
    rw (take_more c.args.list.now c.loop-page.page-index 0 c.loop-page-test.true) (listed_push (length c.args.groups.now) lists xs gs p g h at (pushed (length lists) g h refl refl (rw size c.in_ok-push.ensures.items)) before)

pub returns : goal.returns
returns c = λ lists size is. subst (λ (xs : List ℕ). IsListed (length c.args.groups.now) c.loop-page.groups (lists ++ xs ∷ [])) (take_all c.loop-page.page-index c.args.list.now c.loop-page-test.false) (c.loop-page.invariant lists size is)
