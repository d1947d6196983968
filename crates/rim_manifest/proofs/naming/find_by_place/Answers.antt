use Rattle.rim_manifest.proofs.FaultsInTurn.{adds_nothing, adds_two}
use Rattle.rim_manifest.proofs.naming.find_by_place.Goals as goal

pub loop-number-init : goal.loop-number-init
loop-number-init c = adds_nothing _ _

pub loop-number-preserved : goal.loop-number-preserved
loop-number-preserved c = adds_two _ _ _ _ c.loop-number.invariant c.in_ok-find_in_launch.ensures

pub returns : goal.returns
returns c = adds_two _ _ _ _ c.in_ok-find_shared.ensures (adds_two _ _ _ _ c.in_ok-find_shared-2.ensures c.loop-number.invariant)
