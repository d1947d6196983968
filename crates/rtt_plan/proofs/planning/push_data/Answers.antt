use Rattle.std.proofs.Common.{◌∙◌, ap, arith}
use Rattle.rmm_model.proofs.GranulesInARow.{granules-none}
use Rattle.rtt_plan.proofs.GroupsOfPages.{IsFirstGroup, first-group}
use Rattle.rtt_plan.proofs.ActsStepByStep.{planning-group, planning-pages_end}
use Rattle.rtt_plan.specs.inside.Undone.{undone}
use Rattle.rtt_plan.proofs.TablesTakenBack.{undone-pages}
use Rattle.rtt_plan.proofs.planning.push_data.Goals as goal

pub loop-left-smaller : goal.loop-left-smaller
loop-left-smaller c =
    let group : IsFirstGroup c.args.start c.loop-left.tables.keys c.loop-left.left c.loop-left.page c.min-group.result =
    first-group c.args.start c.loop-left.tables.keys c.loop-left.left c.loop-left.page c.min-group.result c.requires.deep c.loop-left.invariant.whole c.loop-left-test.true (cc) in
    omega (arith, group.some, group.most)

pub loop-left-preserved : goal.loop-left-preserved
loop-left-preserved c =
    let group : IsFirstGroup c.args.start c.loop-left.tables.keys c.loop-left.left c.loop-left.page c.min-group.result =
    first-group c.args.start c.loop-left.tables.keys c.loop-left.left c.loop-left.page c.min-group.result c.requires.deep c.loop-left.invariant.whole c.loop-left-test.true (cc) in
    record {
      whole = omega (arith, c.loop-left.invariant.whole);
      small = omega (arith, c.loop-left.invariant.small, group.most);
      undone_so_far = ap (λ acts. undone acts c.push_missing.new.tables.keys) c.in_ok-push.ensures.items
          ∙ undone-pages c.push_missing.new.acts.items c.loop-left.page c.min-group.result c.push_missing.new.tables.keys
          ∙ c.push_missing.ensures.undone ∙ c.loop-left.invariant.undone_so_far;
      planning =
          rw (c.in_ok-push.ensures.items, c.in_ok-push_missing.ensures.acts)
          (planning-group _ _ _ _ _ _ _ _ _ _ _ group.acts group.tables c.in_ok-push_missing.ensures.tables c.loop-left.invariant.planning);
    }

pub returns-clause-acts : goal.returns-clause-acts
returns-clause-acts c =
    (planning-pages_end _ _ _ _ _ _ _ (granules-none c.loop-left.left c.loop-left.page c.loop-left-test.false) c.loop-left.invariant.planning).0

pub returns-clause-tables : goal.returns-clause-tables
returns-clause-tables c =
    (planning-pages_end _ _ _ _ _ _ _ (granules-none c.loop-left.left c.loop-left.page c.loop-left-test.false) c.loop-left.invariant.planning).1

pub returns-clause-undone : goal.returns-clause-undone
returns-clause-undone c = c.loop-left.invariant.undone_so_far

pub returns-in_err-push_missing-clause-undone : goal.returns-in_err-push_missing-clause-undone
returns-in_err-push_missing-clause-undone c = c.push_missing.ensures.undone ∙ c.loop-left.invariant.undone_so_far

pub returns-in_err-push-clause-undone : goal.returns-in_err-push-clause-undone
returns-in_err-push-clause-undone c =
    ap (λ acts. undone acts c.push_missing.new.tables.keys) c.in_err-push.ensures.items
    ∙ c.push_missing.ensures.undone ∙ c.loop-left.invariant.undone_so_far
