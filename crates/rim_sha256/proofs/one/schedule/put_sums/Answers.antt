use Rattle.std.proofs.Common.{◌+◌, ◌∙◌, arith, ap, slice_index}
use Rattle.sha2.specs.Sha256.{add32, round_constants, schedule}
use Rattle.sha_lanes.proofs.Sums.{sums_more}
use Rattle.rim_sha256.proofs.one.schedule.put_sums.Goals as goal

pub returns : goal.returns
returns c =
    let t = c.args.t in
    record {
      first = λ b held x y.
          sums_more 64 add32 round_constants (schedule b 48) c.args.s.now t _ _ c.requires held
          (c.add.ensures.1 0 (omega arith) ∙ ap (add32 (slice_index round_constants t)) x)
          (c.add.ensures.1 1 (omega arith) ∙ ap (add32 (slice_index round_constants (t + 1))) y);
      second = λ b held x y.
          sums_more 64 add32 round_constants (schedule b 48) c.args.u.now t _ _ c.requires held
          (c.add.ensures.1 2 (omega arith) ∙ ap (add32 (slice_index round_constants t)) x)
          (c.add.ensures.1 3 (omega arith) ∙ ap (add32 (slice_index round_constants (t + 1))) y);
    }
