use Rattle.std.proofs.Common.{◌≡◌, ◌+◌, ◌*◌, ◌∙◌, sym, arith}
use Rattle.sha_lanes.specs.inside.Pairs.{flat}
use Rattle.sha_lanes.proofs.Pairs.{flat_first, flat_second}
use Rattle.sha_lanes.proofs.TwoWords.{window_start}
use Rattle.rim_sha512.proofs.schedule.first_sums.Goals as goal

pub pairs-init : goal.pairs-init
pairs-init c b window = (c.told-sums, λ k none. absurd (omega arith))

pub pairs-preserved : goal.pairs-preserved
pairs-preserved c b window =
    let i = c.pairs.i in
    let w = c.args.w.now in
    let first = sym (flat_first 0 1 w i) ∙ window_start _ (flat 0 1 w) (2 * i) (omega arith) window in
    let second = sym (flat_second 0 1 w i) ∙ window_start _ (flat 0 1 w) (2 * i + 1) (omega arith) window in
    let more : 2 * i + 2 ≡ 2 * (i + 1) = omega arith in
    rw more at (c.put_sums.ensures b (c.pairs.invariant b window) first second)

pub returns : goal.returns
returns c b window =
    let done : 2 * c.pairs.i ≡ 16 = omega arith in
    rw done at (c.pairs.invariant b window)
