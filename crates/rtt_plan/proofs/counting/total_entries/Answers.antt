use Rattle.std.proofs.Common.{arith, refl}
use Rattle.rtt_plan.proofs.EntriesOfRuns.{count-run}
use Rattle.rtt_plan.proofs.EntryByEntry.{at-base, count-end}
use Rattle.rtt_plan.proofs.counting.total_entries.Goals as goal

pub loop-x-init : goal.loop-x-init
loop-x-init c = record { at = at-base _ _ _ c.requires.region c.requires.deep c.requires.some; total = refl; few = c.requires.few }

pub returns-then-more-total-clause-over : goal.returns-then-more-total-clause-over
returns-then-more-total-clause-over c =
    omega (
      arith,
      c.loop-x.invariant.total,
      c.if-more-total.true,
      count-run c.args.base c.args.end c.args.least_level c.loop-x.x c.size_of_level.result c.run_from-run.result c.requires.region c.requires.deep
          c.loop-x.invariant.at c.run_from-run.ensures.next c.run_from-run.ensures.runs c.run_from-run.ensures.base c.size_of_level.ensures.value,
    )

pub loop-x-preserved : goal.loop-x-preserved
loop-x-preserved c = record {
  at = c.run_from-run.ensures.next;
  total =
      omega (
        arith,
        c.loop-x.invariant.total,
        count-run c.args.base c.args.end c.args.least_level c.loop-x.x c.size_of_level.result c.run_from-run.result c.requires.region c.requires.deep
            c.loop-x.invariant.at c.run_from-run.ensures.next c.run_from-run.ensures.runs c.run_from-run.ensures.base c.size_of_level.ensures.value,
      );
  few = omega (arith, c.if-more-total.false);
}

pub returns-clause-total : goal.returns-clause-total
returns-clause-total c = omega (arith, c.loop-x.invariant.total, count-end c.args.base c.args.end c.args.least_level c.loop-x.x c.loop-x-test.false)
