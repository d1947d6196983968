use Rattle.std.proofs.Common.{◌≡◌, take, length}
use Rattle.rim_launch.specs.inside.StepViews.{AreMarks}
use Rattle.rim_launch.proofs.conditions.each_once.Given as goal

abbrev pub invariant-loop-step : goal.invariant-loop-step
invariant-loop-step l = (length l.named ≡ 1024) × AreMarks l.target l.count (take l.step-index l.steps) l.named
