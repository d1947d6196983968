use Rattle.std.proofs.Common.{◌∙◌, ◌++◌, ap, codes}
use Rattle.std.proofs.lemmas.Result.{IfOk-weaker}
use Rattle.serde_json.specs.Data.{Data}
use Rattle.serde_json.specs.Written.{compact_text, has_float}
use Rattle.rim_json.specs.inside.Seen.{reported}
use Rattle.rim_json.proofs.ReportAsJson.{no-float}
use Rattle.rim_json.proofs.report.json_report.Goals as goal

pub returns : goal.returns
returns c =
    let made = c.in_ok-value.ensures in
    IfOk-weaker c.json_text.result _ _
    (λ text shown. shown (ap has_float made ∙ no-float (reported c.args.given.now)) ∙ ap (λ (d : Data). compact_text d ++ codes "\n") made)
    c.json_text.ensures
