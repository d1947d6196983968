use Rattle.std.proofs.Common.{◌≡◌, ◌∙◌, ℕ, Some, ap, sym}
use Rattle.std.proofs.lemmas.Option.{same_Some}
use Rattle.ipa_layout.specs.Files.{bytes_of_files}
use Rattle.rmi_list.specs.Measured.{page_contents}
use Rattle.rim_audit.proofs.ListedPages.{command-is, page-there}
use Rattle.rim_audit.proofs.commands.LaunchCommands.command_at.Goals as goal

pub content_of-content-requires-clause-page : goal.content_of-content-requires-clause-page
content_of-content-requires-clause-page c =
    let s = c.args.self.now in
    page-there s.accepted.named.now.launch s.accepted.placed s.plan c.args.index c.in-Some.item c.in-Some.page s.is_listed (sym c.page_of.ensures
    ∙ c.in-Some.is)

pub returns-in-Some-clause-command : goal.returns-in-Some-clause-command
returns-in-Some-clause-command c =
    let s = c.args.self.now in
    let pages = page_contents s.accepted.named.now.launch (bytes_of_files s.accepted.files.now) s.accepted.placed in
    command-is pages c.content_of-content.result s.plan c.args.index c.command.result
    (λ number k at.
    let same = same_Some (c.in-Some.item, c.in-Some.page) (number, k) (sym c.in-Some.is ∙ c.page_of.ensures ∙ at) in
    c.content_of-content.ensures.content ∙ ap (λ (x : ℕ × ℕ). pages x.0 x.1) same)
    c.command.ensures

pub returns-in-None-clause-command : goal.returns-in-None-clause-command
returns-in-None-clause-command c =
    let s = c.args.self.now in
    let pages = page_contents s.accepted.named.now.launch (bytes_of_files s.accepted.files.now) s.accepted.placed in
    command-is pages _ s.plan c.args.index c.command-in-None.result
    (λ number k at. absurd (let none : c.page_of.result ≡ Some (number, k) = c.page_of.ensures ∙ at in cc))
    c.command-in-None.ensures
