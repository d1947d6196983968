use Rattle.std.proofs.Common.{◌≡◌, ◌∙◌, List, ℕ, ap, ap₂}
use Rattle.std.specs.Prelude.{option_map}
use Rattle.std.specs.Result.{result_ok}
use Rattle.std.proofs.lemmas.Result.{IfOk-weaker}
use Rattle.ipa_layout.specs.Layout.{places}
use Rattle.rim_manifest.specs.Launches.{ReleaseData}
use Rattle.rim_json.specs.ReportJson.{items_at}
use Rattle.rim_json.proofs.report.items_of.Goals as goal

pub returns : goal.returns
returns c =
    let l = c.args.shown.launch.now in
    let accepted = c.args.given.now.accepted.now in
    let place : option_map (λ p. p.now) c.place-place.result ≡ result_ok (places l.launch accepted.files) = c.place-place.ensures l c.requires.launch in
    IfOk-weaker c.items.result _ _ (λ values made. made
    ∙ ap₂ (λ (paths files : List (List ℕ)). items_at paths files l (option_map (λ p. p.now) c.place-place.result))
    (ap (λ (r : ReleaseData). r.paths) c.requires.release) c.files.ensures
    ∙ ap (items_at accepted.release.paths accepted.files l) place) c.items.ensures
