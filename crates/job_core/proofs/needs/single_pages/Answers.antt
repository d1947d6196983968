use Rattle.std.proofs.Common.{refl}
use Rattle.job_core.specs.declared.reaches.PageGroup.{PageGroup}
use Rattle.job_core.proofs.GroupsOfListedNeeds.{listed_page}
use Rattle.job_core.proofs.needs.single_pages.Goals as goal

pub loop-first-preserved : goal.loop-first-preserved
loop-first-preserved c =
    let g : PageGroup = record { first = c.loop-first.first; count = 1; reaches = c.new.result } in
    rw c.in_ok-push.ensures.items (listed_page c.loop-first.first c.loop-first.groups.items g refl refl c.new.ensures.items c.loop-first.invariant)
