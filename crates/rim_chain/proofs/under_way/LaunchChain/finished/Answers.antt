use Rattle.std.proofs.Common.{sym, ap, ◌∙◌, arith}
use Rattle.std.proofs.lemmas.List.Elements.{All-head, All-tail}
use Rattle.launch_plan.specs.Fitting.{IsFitting}
use Rattle.rim_chain.specs.Chains.{chains_to}
use Rattle.rim_chain.proofs.PartByPart.{digests-left, link-first}
use Rattle.rim_chain.proofs.under_way.LaunchChain.finished.Goals as goal

pub split_at-requires : goal.split_at-requires
split_at-requires c =
    let size = digests-left c.self.inside.rest c.self.inside.links.now c.self.inside.digests.now c.self.invariant in
    omega (arith, size, c.page_count.ensures)

pub extended_by_link-requires-clause-fits : goal.extended_by_link-requires-clause-fits
extended_by_link-requires-clause-fits c = All-head IsFitting c.self.inside.rest c.self.inside.links.now c.self.invariant.fit

pub extended_by_links-requires-clause-fit : goal.extended_by_links-requires-clause-fit
extended_by_links-requires-clause-fit c = All-tail IsFitting c.self.inside.rest c.self.inside.links.now c.self.invariant.fit

pub extended_by_links-requires-clause-filled : goal.extended_by_links-requires-clause-filled
extended_by_links-requires-clause-filled c =
    let size = digests-left c.self.inside.rest c.self.inside.links.now c.self.inside.digests.now c.self.invariant in
    omega (arith, size, c.page_count.ensures, c.split_at.ensures.back_len)

pub returns : goal.returns
returns c = rw (c.extended_by_links.ensures, c.extended_by_link.ensures, c.split_at.ensures.front, c.split_at.ensures.back, c.page_count.ensures)
    (sym (link-first c.self.inside.algo c.self.inside.value.bytes c.self.inside.rest c.self.inside.links.now c.self.inside.digests.now)
    ∙ ap chains_to c.self.view_is)
