use Rattle.rmm_model.proofs.RangesOfRam.{overlaps-some, some-overlaps}
use Rattle.rmm_model.proofs.laws.overlap_is_some_ram.Goals as goal

pub returns : goal.returns
returns c ram base top some lt =
    (overlaps-some ram base top some lt, λ h. some-overlaps ram base top (h.0) (h.1) (h.2) (h.3))
