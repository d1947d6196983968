use Rattle.std.proofs.Common.{arith, length, subst, sym}
use Rattle.std.specs.List.{All, Contains}
use Rattle.std.proofs.lemmas.List.Elements.{All-from_all_within, AllWithin-more, AllWithin-upto, at_read}
use Rattle.page_jobs.specs.Table.{page_keys_of as page_keys}
use Rattle.launch_plan.specs.Links.{PlanView, keys_of}
use Rattle.job_board_tests.proofs.known.has_all_keys.Goals as goal

pub loop-plan-preserved : goal.loop-plan-preserved
loop-plan-preserved c =
    let plans = c.args.plans.now in
    let fits = λ (p : PlanView). All (Contains (page_keys c.args.table.now.pages)) (keys_of p.links) in
    AllWithin-more fits plans 0 c.loop-plan.plan-index c.loop-plan.invariant (at_read plans fits c.loop-plan.plan-index c.plan-item.result c.loop-plan-test.true c.plan-item.is (c.has_keys.ensures.0 c.if-not-has_keys.false))

pub returns : goal.returns
returns c =
    let plans = c.args.plans.now in
    let fits = λ (p : PlanView). All (Contains (page_keys c.args.table.now.pages)) (keys_of p.links) in
    (λ yes. All-from_all_within fits plans (AllWithin-upto fits plans 0 c.loop-plan.plan-index (length plans) (omega (arith, c.loop-plan-test.false)) c.loop-plan.invariant), λ all. cc)

pub returns-then-not-has_keys : goal.returns-then-not-has_keys
returns-then-not-has_keys c =
    let fits = λ (p : PlanView). All (Contains (page_keys c.args.table.now.pages)) (keys_of p.links) in (
      λ yes. absurd (cc),
      λ all.
          let here = subst fits (sym c.plan-item.is) (all c.loop-plan.plan-index c.plan-item.result c.loop-plan-test.true) in
          let yes = c.has_keys.ensures.1 here in
          absurd (cc),
    )
