use Rattle.rim_check.specs.inside.Found.{AddsNumber, numbers_of}
use Rattle.rim_check.proofs.warnings.Warnings.add_all.Given as goal

abbrev pub invariant-loop-one : goal.invariant-loop-one
invariant-loop-one l = AddsNumber l.launch (numbers_of l.initial.self) (numbers_of l.self)
