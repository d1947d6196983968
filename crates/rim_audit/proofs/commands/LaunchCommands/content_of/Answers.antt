use Rattle.std.proofs.Common.{◌≡◌, ℕ, ◌+◌, add-zero, ap, ◌∙◌, arith}
use Rattle.rim_audit.specs.inside.Beside.{content_in}
use Rattle.rim_audit.proofs.GroupsOfPages.{kept_digest}
use Rattle.rim_audit.proofs.commands.LaunchCommands.content_of.Goals as goal

pub returns-clause-content : goal.returns-clause-content
returns-clause-content c =
    let group = c.hash_group-group.result in
    let self = c.args.self.now in
    let first : group.first + 0 ≡ c.args.page = add-zero group.first ∙ c.hash_group-group.ensures.first in
    c.hash_group-group.ensures.group 0 _ (kept_digest group.digests.all group.digests.count 0 _ c.hash_group-group.ensures.some (omega arith))
    ∙ (λ i. content_in self (c.hash_group-group.ensures.item i) (first i))
