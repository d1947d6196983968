use Rattle.std.proofs.Common.{◌∙◌}
use Rattle.std.proofs.lemmas.Result.{IfOk-weaker}
use Rattle.ipa_layout.specs.Files.{bytes_of_files}
use Rattle.rim_map.proofs.MapAsJson.{shown-map}
use Rattle.rim_map.proofs.json.map_json.Goals as goal

pub returns : goal.returns
returns c =
    let accepted = c.args.listed.now.accepted in
    let named = c.named-launch.ensures in
    IfOk-weaker c.json_text.result _ _
    (λ text shown. shown-map _ accepted.named.now (bytes_of_files accepted.files.now) accepted.placed _ _ _ _ _ _ _ _
    (c.deref-2.ensures.value ∙ (rw (c.launch.ensures, named, c.files.ensures, c.placed.ensures) at c.in_ok-rows.ensures)) (rw named at c.in_ok-space.ensures)
    c.in_ok-granules.ensures
    c.in_ok-extensions.ensures c.in_ok-warnings.ensures (rw named at c.in_ok-value.ensures) shown)
    c.json_text.ensures
