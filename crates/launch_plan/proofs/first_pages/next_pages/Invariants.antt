use Rattle.std.proofs.Common.{◌≡◌, take}
use Rattle.launch_plan.specs.Links.{keys_of}
use Rattle.launch_plan.proofs.first_pages.next_pages.Given as goal

-- the links passed over have no pages
abbrev pub invariant-loop-at : goal.invariant-loop-at
invariant-loop-at l = keys_of (take l.at l.links) ≡ keys_of (take l.from l.links)
