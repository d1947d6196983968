use Rattle.std.proofs.Common.{◌<◌, ◌^◌, take}
use Rattle.launch_plan.specs.inside.Counted.{AreLinks}
use Rattle.launch_plan.proofs.plan.checked_pages.Given as goal

abbrev pub invariant-loop-link : goal.invariant-loop-link
invariant-loop-link l = record {
  so_far : AreLinks (take l.link-index l.links) l.pages;
  few : l.pages < 2 ^ 64;
}
