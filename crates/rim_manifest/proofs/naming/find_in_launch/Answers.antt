use Rattle.std.proofs.lemmas.Result.{on_ok_weaker}
use Rattle.rim_manifest.proofs.FaultsInTurn.{adds_nothing, adds_two}
use Rattle.rim_manifest.proofs.naming.find_in_launch.Goals as goal

pub loop-item-init : goal.loop-item-init
loop-item-init c = adds_nothing _ _

pub loop-item-preserved : goal.loop-item-preserved
loop-item-preserved c = adds_two _ _ _ _ c.loop-item.invariant c.in_ok-find_in_item.ensures

pub returns : goal.returns
returns c =
    on_ok_weaker c.find_steps.result
    (λ last. adds_two _ _ _ _ c.in_ok-find_shared.ensures (adds_two _ _ _ _ c.loop-item.invariant last)) c.find_steps.ensures
