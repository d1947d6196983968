use Rattle.std.proofs.lemmas.Result.{IfOk-weaker}
use Rattle.serde_json.specs.View.{view}
use Rattle.ipa_layout.specs.Files.{bytes_of_files}
use Rattle.rim_map.specs.inside.Spaces.{seen_space}
use Rattle.rim_map.proofs.RefusedMapAsJson.{shown-refused}
use Rattle.rim_map.proofs.refused.refused_json.Goals as goal

pub returns : goal.returns
returns c =
    IfOk-weaker c.json_text.result _ _
    (λ text shown. shown-refused c.args.release.now.paths c.args.refused.now.named.now
    (bytes_of_files c.args.refused.now.files.now) c.args.refused.now.reason (seen_space c.in_ok-space.space) (view c.in_ok-value.value)
    c.args.remark.now text.items c.in_ok-space.ensures c.in_ok-value.ensures shown)
    c.json_text.ensures
