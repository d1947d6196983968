use Rattle.std.proofs.Common.{refl}
use Rattle.rmm_model.specs.Blocks.{granules, stretches}
use Rattle.launch_plan.specs.Links.{pages_with}
use Rattle.launch_plan.proofs.plan.part_count.Goals as goal

pub returns-in-Blocks : goal.returns-in-Blocks
unfolding stretches
returns-in-Blocks c none = rw (c.in-Blocks.is, none) (refl, refl)

pub returns-in-Pages : goal.returns-in-Pages
unfolding pages_with
returns-in-Pages c none = rw (c.in-Pages.is, none) (refl, refl)

pub returns-in-Unmeasured : goal.returns-in-Unmeasured
unfolding granules
returns-in-Unmeasured c none = rw (c.in-Unmeasured.is, none) (refl, refl)
