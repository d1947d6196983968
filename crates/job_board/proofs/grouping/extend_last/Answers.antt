use Rattle.std.proofs.Common.{◌≡◌, ◌∙◌, ◌-◌, get_or, length, refl, sym, ap}
use Rattle.std.proofs.lemmas.Option.{same_Some, slice_get-get_or, slice_get_within}
use Rattle.job_core.specs.declared.reaches.PageGroup.{PageGroup}
use Rattle.job_board.proofs.GroupsOfStretches.{grouped_more}
use Rattle.job_board.proofs.grouping.extend_last.Goals as goal

pub returns : goal.returns
returns c = λ pages launches before comes is.
    let gs = c.args.groups.now in
    let g = get_or gs (length gs - 1) c.index-groups-last.result in
    let h : PageGroup = record { first = g.first; count = c.args.stretch.count; reaches = c.push.new.self } in
    let at = slice_get-get_or gs (length gs - 1) c.index-groups-last.result (slice_get_within gs (length gs - 1) c.requires.0 c.requires.1) in
    let same : g.first ≡ c.args.stretch.first = ap (λ (u : PageGroup). u.first) (same_Some g c.requires.0 (sym at ∙ c.requires.1)) ∙ c.requires.2 in
    grouped_more pages launches before gs c.args.stretch g h comes is at same refl refl c.in_ok-push.ensures.items
