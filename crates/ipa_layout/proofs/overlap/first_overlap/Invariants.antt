use Rattle.std.proofs.Common.{◌≡◌, drop}
use Rattle.ipa_layout.specs.Overlap.{first_overlap}
use Rattle.ipa_layout.proofs.overlap.first_overlap.Given as goal

abbrev pub invariant-loop-item : goal.invariant-loop-item
invariant-loop-item l = first_overlap l.item (drop l.item l.items) ≡ first_overlap 0 l.items
