use Rattle.std.proofs.Common.{◌∙◌, ap}
use Rattle.std.specs.Prelude.{is_ok}
use Rattle.ipa_layout.specs.Files.{bytes_of_files}
use Rattle.ipa_layout.specs.Layout.{PlacedData}
use Rattle.rim_audit.specs.inside.Copies.{IsKept}
use Rattle.rim_audit.proofs.CopiesOfMonitors.{all-pushed}
use Rattle.rim_audit.proofs.kept.Kept.keep.Goals as goal

pub returns-clause-launches : goal.returns-clause-launches
returns-clause-launches c =
    let files = bytes_of_files c.args.commands.accepted.files.now in
    all-pushed (IsKept files) c.make_room.new.self.launches.items c.push.new.self.items
    (record { launch = c.launch-launch.result; items = c.in-Ok.items; plan = c.args.commands.plan; copies = c.args.copies })
    (is_ok c.push.result) c.push.ensures.items (c.make_room.ensures.launches files c.requires.kept)
    (record {
      placed = c.args.commands.accepted.placed;
      is_placed = rw c.launch-launch.ensures c.args.commands.accepted.is_placed;
      items = c.in-Ok.ensures.items ∙ c.items.ensures ∙ ap (λ (q : PlacedData). q.items) c.placed.ensures;
      is_listed = rw c.launch-launch.ensures c.args.commands.is_listed;
      copies = rw c.launch-launch.ensures c.requires.copies;
    })
