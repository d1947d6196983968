use Rattle.std.proofs.Common.{◌+◌, ◌*◌, ◌∙◌, arith, sym}
use Rattle.rtt_plan.proofs.AllPagesAreRam.{all-end, all-ram_to, all-stop}
use Rattle.rtt_plan.proofs.questions.all_ram.Goals as goal

pub loop-x-preserved : goal.loop-x-preserved
loop-x-preserved c = record {
  at = c.in-Some.ensures.some.whole;
  left = sym (all-ram_to c.args.ram.now.entries (c.args.base + 4096 * c.args.count) c.loop-x.x c.in-Some.top c.loop-x.invariant.at c.in-Some.ensures.some) ∙ c.loop-x.invariant.left;
}

pub returns-in-None : goal.returns-in-None
returns-in-None c =
    sym (all-stop c.args.ram.now.entries (c.args.base + 4096 * c.args.count) c.loop-x.x c.loop-x.invariant.at (omega (arith, c.requires.at)) c.loop-x-test.true c.in-None.ensures.none)
    ∙ c.loop-x.invariant.left

pub returns : goal.returns
returns c = sym (all-end c.args.ram.now.entries (c.args.base + 4096 * c.args.count) c.loop-x.x c.loop-x-test.false) ∙ c.loop-x.invariant.left
