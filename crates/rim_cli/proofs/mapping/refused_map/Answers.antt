use Rattle.std.proofs.lemmas.Result.{IfOk-weaker}
use Rattle.rim_cli.proofs.mapping.refused_map.Goals as goal

pub returns-in-Text : goal.returns-in-Text
returns-in-Text c =
    IfOk-weaker c.refused_text.result _ _ (λ text ends. rw c.in-Text.is (c.in_ok-remark.remark, c.in_ok-remark.ensures, ends)) c.refused_text.ensures

pub returns : goal.returns
returns c =
    IfOk-weaker c.refused_json.result _ _ (λ text shows. rw c.in-Json.is (c.in_ok-remark.remark, c.in_ok-remark.ensures, shows)) c.refused_json.ensures
