use Rattle.std.proofs.Common.{◌≡◌, drop}
use Rattle.ipa_layout.specs.Overlap.{first_met}
use Rattle.ipa_layout.proofs.overlap.first_met.Given as goal

abbrev pub invariant-loop-item : goal.invariant-loop-item
invariant-loop-item l = first_met l.extent l.item (drop l.item l.items) ≡ first_met l.extent l.from (drop l.from l.items)
