use Rattle.std.proofs.Common.{List, ℕ, Some, ap}
use Rattle.std.proofs.lemmas.Result.{on_ok_weaker}
use Rattle.toml.specs.View.{table_view}
use Rattle.shown_text.specs.Lines.{AddsLine, Saying, Says}
use Rattle.rim_check.proofs.FaultPlaces.{says-fault}
use Rattle.rim_check.proofs.manifest.add_remark.Goals as goal

pub returns : goal.returns
returns c =
    on_ok_weaker _
    (λ (adds : (s : Saying) → Says s _ → AddsLine s _ _). adds _ (says-fault c.args.manifest.now.path.now
    (table_view c.args.manifest.now.document.now.table) c.args.finding.now c.args.spot _ _ _
    c.in_ok-place.ensures c.as_str.ensures.value (ap (λ (word : List ℕ). Some word) c.kind.ensures) c.in_ok-remark.ensures))
    c.push_remark.ensures
