use Rattle.sha_lanes.proofs.ChMaj.{maj_short}
use Rattle.rim_sha256.proofs.one.rounds.maj.Goals as goal

pub returns : goal.returns
returns c = maj_short c.args.x c.args.y c.args.z
