use Rattle.std.proofs.Common.{◌≡◌, ◌-◌, ◌++◌, ◌∙◌, ap, arith, refl}
use Rattle.rmm_model.specs.Space.{SameTables}
use Rattle.rtt_plan.specs.Missing.{missing}
use Rattle.rtt_plan.proofs.LargestBlocks.{first_fit-from}
use Rattle.rtt_plan.proofs.GrowingRuns.{runs-end}
use Rattle.rtt_plan.proofs.ActsStepByStep.{planning-run, planning-runs_end, planning-start}
use Rattle.rtt_plan.proofs.EntryByEntry.{at-base}
use Rattle.rtt_plan.specs.inside.Undone.{undone}
use Rattle.rtt_plan.proofs.TablesTakenBack.{undone-run}
use Rattle.rtt_plan.proofs.planning.push_region.Goals as goal

pub loop-x-init : goal.loop-x-init
loop-x-init c = record { at = at-base _ _ _ c.requires.region c.requires.deep c.requires.some; undone_so_far = refl; planning = planning-start _ _ _ }

pub push_missing-requires-clause-low : goal.push_missing-requires-clause-low
push_missing-requires-clause-low c =
    omega (arith, c.requires.low, c.run_from-run.ensures.level, first_fit-from c.args.base c.args.end (3 - c.args.least_level) c.args.least_level c.loop-x.x)

pub loop-x-preserved : goal.loop-x-preserved
loop-x-preserved c = record {
  at = c.run_from-run.ensures.next;
  undone_so_far = ap (λ acts. undone acts c.push_missing.new.tables.keys) c.in_ok-push.ensures.items
      ∙ undone-run c.push_missing.new.acts.items c.loop-x.x c.run_from-run.result.top c.run_from-run.result.level c.push_missing.new.tables.keys
      ∙ c.push_missing.ensures.undone ∙ c.loop-x.invariant.undone_so_far;
  planning =
      let run = c.run_from-run.result in
      let here : run.base ≡ c.loop-x.x = c.run_from-run.ensures.base in
      let tables : SameTables c.push_missing.new.tables.keys (c.loop-x.tables.keys ++ missing c.args.start c.loop-x.tables.keys run.level run.base) = rw here c.in_ok-push_missing.ensures.tables in
      rw (c.in_ok-push.ensures.items, c.in_ok-push_missing.ensures.acts)
      (rw here at (planning-run _ _ _ _ _ _ _ _ run _ c.run_from-run.ensures.runs tables c.loop-x.invariant.planning));
}

pub returns-clause-acts : goal.returns-clause-acts
returns-clause-acts c = (planning-runs_end _ _ _ _ _ _ _ (runs-end _ _ _ _ c.loop-x-test.false) c.loop-x.invariant.planning).0

pub returns-clause-tables : goal.returns-clause-tables
returns-clause-tables c = (planning-runs_end _ _ _ _ _ _ _ (runs-end _ _ _ _ c.loop-x-test.false) c.loop-x.invariant.planning).1

pub returns-clause-undone : goal.returns-clause-undone
returns-clause-undone c = c.loop-x.invariant.undone_so_far

pub returns-in_err-push_missing-clause-undone : goal.returns-in_err-push_missing-clause-undone
returns-in_err-push_missing-clause-undone c = c.push_missing.ensures.undone ∙ c.loop-x.invariant.undone_so_far

pub returns-in_err-push-clause-undone : goal.returns-in_err-push-clause-undone
returns-in_err-push-clause-undone c =
    ap (λ acts. undone acts c.push_missing.new.tables.keys) c.in_err-push.ensures.items
    ∙ c.push_missing.ensures.undone ∙ c.loop-x.invariant.undone_so_far
