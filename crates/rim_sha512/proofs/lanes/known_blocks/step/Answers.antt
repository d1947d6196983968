-- tools/checks/widths.py makes this text from that for SHA-256.
use Rattle.std.proofs.Common.{slice_index, ap, ◌∙◌}
use Rattle.sha2.specs.Sha512.{round, round_constants, schedule}
use Rattle.rim_sha512.proofs.KnownBlocks.{round_known, rounds_known, sum_at}
use Rattle.sha_lanes.specs.inside.Lanes.{lane}
use Rattle.sha_lanes.proofs.LaneByLane.{splat}
use Rattle.rim_sha512.proofs.lanes.known_blocks.step.Goals as goal

pub returns : goal.returns
returns g c j b h low known held =
    let t = c.args.t in
    let v = lane j c.args.v in
    let sum = slice_index c.args.sums.now t in
    let k = slice_index round_constants t in
    let w = slice_index (schedule b 64) t in
    let one = c.round.ensures j low ∙ ap (round v sum) ((splat 0).1 j low) in
    rounds_known b h v _ t held (one ∙ round_known v k w sum (sum_at c.args.sums.now b t known c.requires))
