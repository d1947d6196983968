use Rattle.std.proofs.Common.{refl, sym}
use Rattle.sha_lanes.specs.inside.Lanes.{lane, window}
use Rattle.sha2.proofs.Schedule256.{rounds_first}
use Rattle.sha_lanes.proofs.LaneByLane.{window_at}
use Rattle.rim_sha256.proofs.lanes.rounds.first_step.Goals as goal

pub returns : goal.returns
returns g c j b h low first held =
    rounds_first b h (window j c.args.w.now) (lane j c.args.v) c.args.t _ _ _ c.requires first held refl
    (sym (window_at c.args.w.now c.args.t j)) (c.round.ensures j low)
