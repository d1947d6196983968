use Rattle.rim_manifest.proofs.FaultsInTurn.{adds_nothing, adds_two}
use Rattle.rim_manifest.proofs.naming.find_shared.Goals as goal

pub loop-number-init : goal.loop-number-init
loop-number-init c = adds_nothing _ _

pub loop-number-preserved : goal.loop-number-preserved
loop-number-preserved c = adds_two _ _ _ _ c.loop-number.invariant c.in_ok-note_if.ensures
