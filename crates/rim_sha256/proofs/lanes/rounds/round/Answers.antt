use Rattle.std.proofs.Common.{refl}
use Rattle.rim_sha256.proofs.lanes.rounds.round.Goals as goal

pub returns : goal.returns
returns g c j h =
    rw (c.eight.ensures, c.add.ensures.1 j h, c.add-2.ensures.1 j h, c.temp1-temp1.ensures.1 j h, c.temp2-temp2.ensures.1 j h) refl
