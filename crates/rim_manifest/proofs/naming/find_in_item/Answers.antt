use Rattle.std.proofs.lemmas.Result.{on_ok_weaker}
use Rattle.rim_manifest.proofs.FaultsInTurn.{adds_two}
use Rattle.rim_manifest.proofs.naming.find_in_item.Goals as goal

pub returns : goal.returns
returns c = on_ok_weaker c.note_if-2.result (λ last. adds_two _ _ _ _ c.in_ok-note_if.ensures last) c.note_if-2.ensures
