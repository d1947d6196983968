use Rattle.rim_manifest.proofs.FaultsInTurn.{adds_nothing, adds_two}
use Rattle.rim_manifest.proofs.naming.find_steps.Goals as goal

pub loop-index-init : goal.loop-index-init
loop-index-init c = adds_nothing _ _

pub loop-index-preserved : goal.loop-index-preserved
loop-index-preserved c = adds_two _ _ _ _ c.loop-index.invariant c.in_ok-note_if.ensures
