use Rattle.std.proofs.Common.{List, arith, sym, ap, subst, ◌∙◌}
use Rattle.rim_desc.specs.Part.{Part}
use Rattle.launch_plan.specs.Links.{parts_with}
use Rattle.launch_plan.specs.declared.link.Link.{Link}
use Rattle.rim_chain.specs.Chains.{ChainView}
use Rattle.rim_chain.specs.inside.UnderWay.{AreLeft}
use Rattle.rim_chain.proofs.PartByPart.{empty-first, empty-left}
use Rattle.rim_chain.proofs.under_way.LaunchChain.take_link.Goals as goal

pub invariant_of-self : goal.invariant_of-self
invariant_of-self c =
    let empty = c.part_count.ensures (omega (arith, c.if-part_count-gt0.false)) in
    subst (λ (ls : List Link). AreLeft ls c.self.inside.digests.now) c.in-Some.ensures.cases.0
    (empty-left c.self.inside.links.now c.self.inside.digests.now c.self.inside.rest empty c.self.invariant)

pub returns-in-Some : goal.returns-in-Some
returns-in-Some c =
    let empty = c.part_count.ensures (omega (arith, c.if-part_count-gt0.false)) in
    let digests = c.self.inside.digests.now in
    let with_left = λ (parts : List Part).
    let v : ChainView = record { algo = c.self.inside.algo; value = c.self.inside.value.bytes; left = parts; end = c.self.inside.end } in v in
    ap with_left (ap (λ (ls : List Link). parts_with ls digests) (sym c.in-Some.ensures.cases.0)
    ∙ sym (empty-first c.self.inside.rest c.self.inside.links.now digests empty)) ∙ c.self.view_is
