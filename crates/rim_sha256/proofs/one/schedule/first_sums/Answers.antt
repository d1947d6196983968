use Rattle.std.proofs.Common.{◌≡◌, ◌+◌, ◌*◌, ◌∙◌, sym, arith}
use Rattle.sha_lanes.specs.inside.Pairs.{flat}
use Rattle.sha_lanes.proofs.Pairs.{flat_first, flat_second}
use Rattle.sha_lanes.proofs.TwoWords.{window_start}
use Rattle.rim_sha256.proofs.one.schedule.first_sums.Goals as goal

pub pairs-init : goal.pairs-init
pairs-init c = (λ b window. (c.told-s, λ k none. absurd (omega arith)), λ b window. (c.told-u, λ k none. absurd (omega arith)))

pub pairs-preserved : goal.pairs-preserved
pairs-preserved c =
    let i = c.pairs.i in
    let w = c.args.w.now in
    let more : 2 * i + 2 ≡ 2 * (i + 1) = omega arith in (
      λ b window.
          let x = sym (flat_first 0 1 w i) ∙ window_start _ (flat 0 1 w) (2 * i) (omega arith) window in
          let y = sym (flat_second 0 1 w i) ∙ window_start _ (flat 0 1 w) (2 * i + 1) (omega arith) window in
          rw more at (c.put_sums.ensures.first b (c.pairs.invariant.0 b window) x y),
      λ b window.
          let x = sym (flat_first 2 3 w i) ∙ window_start _ (flat 2 3 w) (2 * i) (omega arith) window in
          let y = sym (flat_second 2 3 w i) ∙ window_start _ (flat 2 3 w) (2 * i + 1) (omega arith) window in
          rw more at (c.put_sums.ensures.second b (c.pairs.invariant.1 b window) x y),
    )

pub returns : goal.returns
returns c =
    let done : 2 * c.pairs.i ≡ 16 = omega arith in
    record {
      first = λ b window. rw done at (c.pairs.invariant.0 b window);
      second = λ b window. rw done at (c.pairs.invariant.1 b window);
    }
