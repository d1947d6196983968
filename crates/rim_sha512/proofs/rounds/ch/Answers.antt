use Rattle.std.proofs.Common.{w64, arith}
use Rattle.sha_lanes.proofs.ChMaj.{ch_short}
use Rattle.rim_sha512.proofs.rounds.ch.Goals as goal

pub returns : goal.returns
returns c = ch_short w64 c.args.x c.args.y c.args.z (omega arith) (omega arith) (omega arith)
