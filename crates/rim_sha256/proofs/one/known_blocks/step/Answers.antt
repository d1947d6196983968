use Rattle.std.proofs.Common.{slice_index, ◌∙◌}
use Rattle.sha2.specs.Sha256.{round_constants, schedule}
use Rattle.rim_sha256.proofs.KnownBlocks.{round_known, rounds_known, sum_at}
use Rattle.rim_sha256.proofs.one.known_blocks.step.Goals as goal

pub returns : goal.returns
returns c b h known held =
    let t = c.args.t in
    let k = slice_index round_constants t in
    let w = slice_index (schedule b 48) t in
    rounds_known b h c.args.v _ t held (c.round.ensures ∙ round_known c.args.v k w _ (sum_at c.args.sums.now b t known c.requires))
