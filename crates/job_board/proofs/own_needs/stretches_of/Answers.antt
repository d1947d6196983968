use Rattle.std.proofs.Common.{◌≡◌, ℕ, length, refl, sym, subst, arith, ◌+◌, take, ◌∙◌, ap, ◌++◌, List, Some}
use Rattle.std.specs.List.{All, slice_get}
use Rattle.std.proofs.lemmas.Option.{get_or_from_slice_get, slice_get_read}
use Rattle.job_board.specs.declared.grouping.Stretch.{Stretch}
use Rattle.job_board.specs.inside.OwnStretches.{plan_stretches, stretches_from}
use Rattle.std.proofs.lemmas.List.Elements.{All-more}
use Rattle.launch_plan.specs.Fitting.{BeginsItem}
use Rattle.launch_plan.specs.Links.{PlanView}
use Rattle.job_board.proofs.NeedsOfOwnPages.{stretches_more}
use Rattle.job_board.proofs.own_needs.stretches_of.Goals as goal

pub loop-launch-preserved : goal.loop-launch-preserved
loop-launch-preserved c =
    let plan = c.index-plans-launch.result in
    let here : slice_get c.args.plans.now c.loop-launch.launch ≡ Some plan = slice_get_read c.args.plans.now (length c.args.plans.now) c.loop-launch.launch plan refl c.loop-launch-test.true c.index-plans-launch.is in
    let place : 0 + c.loop-launch.launch ≡ c.loop-launch.launch = omega arith in
    record {
      stretches = c.in_ok-push_plan.ensures.stretches
          ∙ (ap (λ (ss : List Stretch). ss ++ plan_stretches c.args.table.now.pages c.loop-launch.launch plan) c.loop-launch.invariant.stretches
          ∙ (ap (λ (l : ℕ). stretches_from c.args.table.now.pages 0 (take c.loop-launch.launch c.args.plans.now) ++ plan_stretches c.args.table.now.pages l plan) (sym place)
          ∙ sym (stretches_more c.args.table.now.pages 0 c.args.plans.now c.loop-launch.launch plan here)));
      begin = All-more (λ (p : PlanView). All BeginsItem p.links) c.args.plans.now c.loop-launch.launch plan c.loop-launch-test.true c.loop-launch.invariant.begin
          (subst (λ (p : PlanView). All BeginsItem p.links) (sym (get_or_from_slice_get c.args.plans.now c.loop-launch.launch plan plan here)) c.push_plan.ensures.begin);
    }
