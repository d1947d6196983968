use Rattle.rmm_model.proofs.RimOfShownParts.{rim-run}
use Rattle.rmm_model.proofs.laws.rim_is_of_its_parts.Goals as goal

pub returns : goal.returns
returns c num_aux rule commands params = rim-run num_aux rule commands params
