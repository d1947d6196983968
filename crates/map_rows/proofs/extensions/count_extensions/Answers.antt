use Rattle.std.proofs.Common.{◌∙◌, ap}
use Rattle.std.proofs.lemmas.Result.{IfOk-weaker}
use Rattle.map_rows.specs.inside.Links.{links_extensions}
use Rattle.map_rows.proofs.ExtensionsOfLinks.{own-extensions}
use Rattle.map_rows.proofs.extensions.count_extensions.Goals as goal

pub returns : goal.returns
returns c =
    IfOk-weaker c.counted.result _ _
    (λ e is. is ∙ ap links_extensions c.links.ensures.links ∙ own-extensions _ _ _ _ c.args.accepted.now.is_placed
    (rw (c.launch-launch.ensures, c.placed.ensures) at c.in_ok-plan.ensures.read))
    c.counted.ensures
