use Rattle.std.proofs.Common.{◌∙◌, ◌++◌, ◌∷◌, [], List, ap, refl}
use Rattle.job_core.specs.declared.reaches.Reach.{Reach}
use Rattle.job_core.specs.declared.reaches.PageGroup.{PageGroup}
use Rattle.job_board.proofs.GroupsOfStretches.{grouped_new, reach_of}
use Rattle.job_board.proofs.grouping.add_group.Goals as goal

pub returns : goal.returns
returns c = λ pages launches before comes is.
    let h : PageGroup = record { first = c.args.stretch.first; count = c.args.stretch.count; reaches = c.push.new.self } in
    let items = c.in_ok-push.ensures.items ∙ ap (λ (qs : List Reach). qs ++ reach_of c.args.stretch ∷ []) c.new-reaches.ensures.items in
    rw c.in_ok-push-2.ensures.items (grouped_new pages launches before c.args.groups.now.items c.args.stretch h comes is c.requires refl refl items)
