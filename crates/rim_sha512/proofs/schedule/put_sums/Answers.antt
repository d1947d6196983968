use Rattle.std.proofs.Common.{◌+◌, ◌∙◌, arith, ap, slice_index}
use Rattle.sha2.specs.Sha512.{add64, round_constants, schedule}
use Rattle.sha_lanes.proofs.Sums.{sums_more}
use Rattle.rim_sha512.proofs.schedule.put_sums.Goals as goal

pub returns : goal.returns
returns c b held first second =
    let t = c.args.t in
    sums_more 80 add64 round_constants (schedule b 64) c.args.sums.now t _ _ c.requires held
    (c.add.ensures.1 0 (omega arith) ∙ ap (add64 (slice_index round_constants t)) first)
    (c.add.ensures.1 1 (omega arith) ∙ ap (add64 (slice_index round_constants (t + 1))) second)
