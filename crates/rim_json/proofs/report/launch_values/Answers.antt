use Rattle.std.proofs.Common.{◌∙◌, List, ap, map}
use Rattle.std.proofs.lemmas.List.{map-append}
use Rattle.serde_json.specs.View.{view}
use Rattle.serde_json.specs.declared.value.Value.{Value}
use Rattle.rim_json.specs.inside.Seen.{news_of}
use Rattle.rim_json.proofs.ReportAsJson.{launches-next}
use Rattle.rim_json.proofs.report.launch_values.Goals as goal

pub loop-number-preserved : goal.loop-number-preserved
loop-number-preserved c =
    let accepted = c.args.given.now.accepted.now in
    ap (λ (vs : List Value). map view vs) c.in_ok-push.ensures.items
    ∙ map-append view c.loop-number.values.items _
    ∙ launches-next accepted.release.paths accepted.files (news_of c.args.given.now) accepted.release.launches c.loop-number.number
    c.index-launches-number.result _ _ (rw c.launches-launches.ensures at c.loop-number-test.true)
    (rw c.launches-launches.ensures at c.index-launches-number.is) c.loop-number.invariant
    c.in_ok-launch_value.ensures
