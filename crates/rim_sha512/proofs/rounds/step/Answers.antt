use Rattle.std.proofs.Common.{slice_index}
use Rattle.sha2.specs.Sha512.{round_constants, schedule}
use Rattle.rim_sha512.proofs.KnownBlocks.{sum_at}
use Rattle.sha2.proofs.Schedule512.{rounds_next}
use Rattle.rim_sha512.proofs.rounds.step.Goals as goal

pub returns : goal.returns
returns c b h known held =
    let t = c.args.t in
    let ws = schedule b 64 in
    rw (rounds_next h ws t, ← held) (c.round.ensures (slice_index round_constants t) (slice_index ws t) (sum_at c.args.sums.now b t known c.requires))
