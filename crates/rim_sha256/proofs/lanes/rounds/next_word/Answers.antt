use Rattle.std.proofs.Common.{◌≡◌, ◌+◌, ◌%◌, arith}
use Rattle.sha_lanes.proofs.LaneByLane.{window_at}
use Rattle.rim_sha256.proofs.lanes.rounds.next_word.Goals as goal

pub returns-clause-value : goal.returns-clause-value
returns-clause-value g c j h =
    let w = c.args.w.now in
    let p = c.args.place in
    let at : p % 16 ≡ p = omega arith in
    rw (at, window_at w ((p + 14) % 16) j, window_at w ((p + 9) % 16) j, window_at w ((p + 1) % 16) j, window_at w p j) (c.next-word.ensures.1 j h)
