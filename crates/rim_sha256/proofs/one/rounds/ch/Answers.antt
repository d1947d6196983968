use Rattle.std.proofs.Common.{w32, arith}
use Rattle.sha_lanes.proofs.ChMaj.{ch_short}
use Rattle.rim_sha256.proofs.one.rounds.ch.Goals as goal

pub returns : goal.returns
returns c = ch_short w32 c.args.x c.args.y c.args.z (omega arith) (omega arith) (omega arith)
