use Rattle.std.proofs.Common.{◌≡◌, ◌-◌}
use Rattle.ipa_layout.specs.Memory.{first_unheld}
use Rattle.ipa_layout.proofs.memory.first_unheld.Given as goal

abbrev pub invariant-loop-page : goal.invariant-loop-page
invariant-loop-page l = first_unheld l.ram l.page (l.end - l.page) ≡ first_unheld l.ram l.first (l.end - l.first)

abbrev pub decreases-loop-page : goal.decreases-loop-page
decreases-loop-page l = l.end - l.page
