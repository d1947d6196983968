use Rattle.std.proofs.Common.{◌<◌, ◌++◌, ◌∙◌, ℕ, List, length, get_or, append_assoc, ap, arith}
use Rattle.std.proofs.lemmas.Option.{slice_get-get_or, slice_get_within}
use Rattle.job_core.specs.declared.reaches.Reach.{Reach}
use Rattle.job_core.proofs.ReachesAfterPuts.{one_below, one_met, one_waits}
use Rattle.job_core.proofs.reaches.meet.Goals as goal

abbrev none : Reach
none = record { launch = 0; count = 0 }

pub wait_less-requires-clause-some : goal.wait_less-requires-clause-some
wait_less-requires-clause-some c = one_waits c.loop-k.left c.args.left.now c.args.reaches.now c.args.from c.loop-k.k none c.loop-k-test.true c.loop-k.invariant.left c.requires.counted

pub loop-k-preserved : goal.loop-k-preserved
loop-k-preserved c =
    let qs = c.args.reaches.now in
    let k = c.loop-k.k in
    let at = slice_get-get_or qs k none c.loop-k-test.true in
    let named : (get_or qs k none).launch < length c.loop-k.left = omega (arith, c.requires.named k (get_or qs k none) at, c.loop-k.auto.left) in
    record {
      met = one_below qs c.args.from k c.args.done none c.loop-k-test.true c.if-reach-done.false c.loop-k.invariant.met;
      left = rw c.wait_less.ensures.left (one_met c.loop-k.left c.args.left.now qs c.args.from k none c.loop-k-test.true named c.loop-k.invariant.left c.requires.counted);
      line = c.wait_less.ensures.line;
      grows = (c.loop-k.invariant.grows.0 ++ c.wait_less.ensures.grows.0, c.wait_less.ensures.grows.1 ∙ (ap (λ (xs : List ℕ). xs ++ c.wait_less.ensures.grows.0) c.loop-k.invariant.grows.1 ∙ append_assoc c.args.ready.now.items c.loop-k.invariant.grows.0 c.wait_less.ensures.grows.0));
    }

pub returns-clause-open : goal.returns-clause-open
returns-clause-open c = λ j q le at. let lt = slice_get_within c.args.reaches.now j q at in absurd (omega (arith, le, lt))
