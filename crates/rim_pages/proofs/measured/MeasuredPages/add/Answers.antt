use Rattle.std.proofs.Common.{◌≡◌, ◌∙◌, ◌++◌, List, ap}
use Rattle.std.proofs.lemmas.Result.{on_ok_weaker}
use Rattle.page_jobs.specs.declared.page.PageKey.{PageKey}
use Rattle.launch_plan.specs.Keys.{measured_keys}
use Rattle.rim_pages.specs.inside.Ends.{launch_ends}
use Rattle.rim_pages.proofs.DifferentPages.{added-keys}
use Rattle.rim_pages.proofs.measured.MeasuredPages.add.Goals as goal

pub returns : goal.returns
returns c =
    let a = c.args.accepted.now in
    let old : List PageKey = c.self.inside.ends.items in
    let new : List PageKey = c.push_launch.new.ends.items in
    on_ok_weaker _ (λ (added : new ≡ old ++ launch_ends a). added-keys a old new added
    ∙ ap (λ (keys : List PageKey). keys ++ measured_keys a.named.now.launch a.placed) c.self.view_is) c.push_launch.ensures
