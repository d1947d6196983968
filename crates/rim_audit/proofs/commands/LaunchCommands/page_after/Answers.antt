use Rattle.std.proofs.Common.{◌≡◌, ◌+◌, ◌<◌, ◌≤◌, ap, ◌∙◌, arith}
use Rattle.ipa_layout.specs.Files.{bytes_of_files}
use Rattle.rim_audit.specs.inside.Beside.{content_in}
use Rattle.rim_audit.proofs.ListedPages.{page-few}
use Rattle.rim_audit.proofs.commands.LaunchCommands.page_after.Goals as goal

pub overflow_add-page : goal.overflow_add-page
overflow_add-page c =
    let low : c.args.page + c.min.result < 1048576 =
    page-few c.args.self.now.accepted.named.now.launch (bytes_of_files c.args.self.now.accepted.files.now) c.args.self.now.accepted.placed c.args.item
    (c.args.page + c.min.result) c.args.self.now.accepted.is_placed
    (c.requires c.min.result (omega arith)) in
    record { fits = omega (arith, low) }

pub returns : goal.returns
returns c low m own =
    let same : c.min.result ≡ c.args.k = omega arith in
    c.page.ensures m own ∙ ap (λ k. content_in c.args.self.now c.args.item (c.args.page + k)) same
