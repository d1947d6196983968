use Rattle.std.proofs.Common.{◌≡◌, codes, subst}
use Rattle.std.specs.Prelude.{Option, OnOk}
use Rattle.serde_json.specs.Data.{put as with_member}
use Rattle.serde_json.specs.View.{members_view}
use Rattle.ipa_layout.specs.Layout.{PlacedData}
use Rattle.rim_json.specs.ReportJson.{edited_json}
use Rattle.rim_json.proofs.report.put_devicetree.Goals as goal

pub returns : goal.returns
returns c =
    subst (λ (place : Option PlacedData). OnOk c.put_edited.result (members_view c.put_edited.new.members.entries
    ≡ with_member (codes "edited_sha256") (edited_json place) (members_view c.args.members.now.entries)))
    (c.place.ensures c.args.launch.now c.requires) c.put_edited.ensures
