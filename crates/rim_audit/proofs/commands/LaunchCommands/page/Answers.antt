use Rattle.std.proofs.Common.{◌≡◌, ◌∙◌, ℕ, List, Bor, Some, ap, sym}
use Rattle.rim_launch.specs.LaunchData.{LaunchData}
use Rattle.rim_desc.specs.PageBytes.{page_bytes}
use Rattle.rim_launch.specs.declared.config.Config.{Config}
use Rattle.ipa_layout.specs.Layout.{PlacedData}
use Rattle.ipa_layout.specs.declared.placed.PlacedItem.{PlacedItem}
use Rattle.ipa_layout.specs.Files.{bytes_of_files}
use Rattle.ipa_layout.proofs.PlacedLaunchLaws.{lead-low}
use Rattle.page_jobs.specs.Page.{PageView, page_view}
use Rattle.rim_audit.proofs.ListedPages.{content-is, item-there, page-low}
use Rattle.rim_audit.proofs.commands.LaunchCommands.page.Goals as goal

pub new-requires : goal.new-requires
new-requires c =
    let p = c.args.self.now.accepted.placed in
    let there = c.items.ensures ∙ ap (λ (q : PlacedData). q.items) c.placed-placed.ensures in
    rw (item-there p.items c.items.result.now c.args.item c.requires.item _ there c.requires.at)
    (lead-low c.args.self.now.accepted.named.now.launch (bytes_of_files c.args.self.now.accepted.files.now) p c.args.item c.requires.item
    c.args.self.now.accepted.is_placed c.requires.at)

pub page-requires : goal.page-requires
page-requires c =
    page-low c.args.self.now.accepted.named.now.launch
    (bytes_of_files c.args.self.now.accepted.files.now) c.args.self.now.accepted.placed c.args.item c.args.page c.args.self.now.accepted.is_placed c.requires

pub unreachable-requires : goal.unreachable-requires
unreachable-requires c =
    let p = c.args.self.now.accepted.placed in
    let there = c.items.ensures ∙ ap (λ (q : PlacedData). q.items) c.placed-placed.ensures in
    let is = item-there p.items c.items.result.now c.args.item c.requires.item _ there c.requires.at in
    absurd (c.in_default.not-Some c.requires.source (ap (λ (i : PlacedItem). i.source) is ∙ c.requires.from))

pub returns : goal.returns
returns c = λ m own.
    let p = c.args.self.now.accepted.placed in
    let files : List (List ℕ) = bytes_of_files c.args.self.now.accepted.files.now in
    let item : PlacedItem = c.requires.item in
    let there = c.items.ensures ∙ ap (λ (q : PlacedData). q.items) c.placed-placed.ensures in
    let is = item-there p.items c.items.result.now c.args.item item _ there c.requires.at in
    let from : item.source ≡ Some c.in-Some.source = sym (ap (λ (i : PlacedItem). i.source) is) ∙ c.in-Some.is in
    content-is c.args.self.now.accepted.named.now.launch files p c.args.item c.args.page item c.in-Some.source (page_view c.page.result) m c.requires.at from
    (ap (λ (v : PageView). v.key.algo) c.page.ensures.page ∙ ap (λ (x : Config). x.algo) c.config-algo.ensures.value
    ∙ ap (λ (l : LaunchData). l.config.algo) c.launch.ensures)
    (c.page.ensures.contents
    ∙ ap (λ (lead : ℕ). page_bytes lead c.new.result.bytes.now c.args.page) (c.new.ensures.lead ∙ ap (λ (i : PlacedItem). i.lead) is)
    ∙ ap (λ (bytes : List ℕ). page_bytes item.lead bytes c.args.page)
    (ap (λ (b : Bor (List ℕ)). b.now) c.new.ensures.bytes ∙ (rw (c.files.ensures, c.placed-placed.ensures) at c.bytes-bytes.ensures)))
    own
