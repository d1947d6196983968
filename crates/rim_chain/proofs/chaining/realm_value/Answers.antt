use Rattle.std.proofs.Common.{◌∙◌, sym}
use Rattle.rim_chain.proofs.PrefixValues.{prefix-first}
use Rattle.rim_chain.proofs.chaining.realm_value.Goals as goal

pub returns : goal.returns
returns c = λ digests. rw (c.realm_page.ensures, c.params-params.ensures) at c.hash.ensures ∙ sym (prefix-first c.args.plan.now digests)
