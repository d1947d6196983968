use Rattle.std.proofs.Common.{◌≡◌, ◌∙◌, ◌++◌, List, ℕ, ap, codes, false}
use Rattle.std.proofs.lemmas.Result.{IfOk-weaker}
use Rattle.serde_json.specs.Data.{Data}
use Rattle.serde_json.specs.View.{view}
use Rattle.serde_json.specs.Written.{compact_text, has_float}
use Rattle.rim_check.proofs.LinesAsJson.{check-float}
use Rattle.rim_check.proofs.json.check_json.Goals as goal

pub returns : goal.returns
returns c =
    let whole : has_float (view c.in_ok-value.value) ≡ false =
    ap has_float c.in_ok-value.ensures ∙ check-float c.args.faults.now c.args.warnings.now c.args.status in
    IfOk-weaker c.text_of.result _ _
    (λ text shown. shown whole ∙ ap (λ (d : Data). compact_text d ++ codes "\n") c.in_ok-value.ensures)
    c.text_of.ensures
