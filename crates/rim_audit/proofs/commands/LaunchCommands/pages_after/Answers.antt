use Rattle.std.proofs.Common.{◌∙◌, ap}
use Rattle.ipa_layout.specs.Layout.{PlacedData}
use Rattle.rim_audit.proofs.ListedPages.{has-after}
use Rattle.rim_audit.proofs.commands.LaunchCommands.pages_after.Goals as goal

pub returns : goal.returns
returns c k low =
    let items = c.items.ensures ∙ ap (λ (q : PlacedData). q.items) c.placed.ensures in
    has-after c.args.self.now.accepted.placed c.items.result.now c.args.item c.args.page k _ items c.requires low
