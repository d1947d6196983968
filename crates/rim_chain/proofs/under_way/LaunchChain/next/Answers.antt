use Rattle.std.proofs.Common.{◌≡◌, ◌∷◌, ◌<◌, List, ap, sym, subst, ◌∙◌, arith}
use Rattle.rim_desc.specs.Part.{extended_by}
use Rattle.rim_desc.specs.declared.measurement.Measurement.{Measurement}
use Rattle.launch_plan.specs.Links.{parts_with}
use Rattle.launch_plan.specs.declared.link.Link.{Link}
use Rattle.launch_plan.specs.declared.link.Link.TheVariants.{Pages}
use Rattle.rim_chain.specs.inside.UnderWay.{AreLeft}
use Rattle.rim_chain.specs.Chains.{chains_to}
use Rattle.rim_chain.proofs.PartByPart.{block-first, block-fits, block-left, page-first, page-left, rec-first, rec-left, unmeasured-first, unmeasured-left}
use Rattle.rim_chain.proofs.under_way.LaunchChain.next.Goals as goal

-- what is left begins with this link
left-is : (rest link : Link) (links : List Link) (digests : List Measurement) → rest ≡ link → AreLeft (rest ∷ links) digests → AreLeft (link ∷ links) digests
left-is rest link links digests is left = subst (λ (l : Link). AreLeft (l ∷ links) digests) is left

pub overflow_add-top : goal.overflow_add-top
overflow_add-top c =
    let some : 0 < c.in-Blocks.count = omega (arith, c.if-count-gt0.true) in
    omega (
      arith,
      block-fits c.self.inside.links.now c.self.inside.digests.now c.in-Blocks.base c.in-Blocks.size c.in-Blocks.count some
          (left-is _ _ c.self.inside.links.now c.self.inside.digests.now c.in-Blocks.is c.self.invariant),
    )

pub invariant_of-self : goal.invariant_of-self
invariant_of-self c =
    block-left c.self.inside.links.now c.self.inside.digests.now c.in-Blocks.base c.in-Blocks.size c.in-Blocks.count (omega (arith, c.if-count-gt0.true))
    (left-is _ _ c.self.inside.links.now c.self.inside.digests.now c.in-Blocks.is c.self.invariant)

pub invariant_of-self-then-count-gt0-2 : goal.invariant_of-self-then-count-gt0-2
invariant_of-self-then-count-gt0-2 c =
    let links = c.self.inside.links.now in
    let left = left-is _ _ links c.self.inside.digests.now c.in-Pages.is c.self.invariant in
    page-left links c.in-Some.digests.now c.in-Pages.ipa c.in-Pages.key c.in-Pages.count c.in-Some.digest.now (omega (arith, c.if-count-gt0-2.true))
    (subst (AreLeft (Pages c.in-Pages.ipa c.in-Pages.key c.in-Pages.count ∷ links)) c.in-Some.ensures.cases.0 left)

pub invariant_of-self-then-count-gt0-3 : goal.invariant_of-self-then-count-gt0-3
invariant_of-self-then-count-gt0-3 c =
    unmeasured-left c.self.inside.links.now c.self.inside.digests.now c.in-Unmeasured.ipa c.in-Unmeasured.count (omega (arith, c.if-count-gt0-3.true))
    (left-is _ _ c.self.inside.links.now c.self.inside.digests.now c.in-Unmeasured.is c.self.invariant)

pub invariant_of-self-in-Rec-1 : goal.invariant_of-self-in-Rec-1
invariant_of-self-in-Rec-1 c =
    rec-left c.self.inside.links.now c.self.inside.digests.now c.in-Rec.content
    (left-is _ _ c.self.inside.links.now c.self.inside.digests.now c.in-Rec.is c.self.invariant)

pub returns-in-Blocks-clause-taken : goal.returns-in-Blocks-clause-taken
returns-in-Blocks-clause-taken c = λ _.
    let links = c.self.inside.links.now in
    let digests = c.self.inside.digests.now in
    let with_rest = λ (l : Link). extended_by c.self.inside.algo c.self.inside.value.bytes (parts_with (l ∷ links) digests) in
    rw (c.ripas_descriptor.ensures)
    (sym (block-first c.self.inside.algo c.self.inside.value.bytes links digests c.in-Blocks.base c.in-Blocks.size c.in-Blocks.count
    (omega (arith, c.if-count-gt0.true)))
    ∙ ap with_rest (sym c.in-Blocks.is) ∙ ap chains_to (c.self.view_is ∙ c.take_link.ensures))

pub returns-in-Some-clause-taken : goal.returns-in-Some-clause-taken
returns-in-Some-clause-taken c = λ _.
    let links = c.self.inside.links.now in
    let digests = c.self.inside.digests.now in
    let others = c.in-Some.digests.now in
    let with_digests = λ (ds : List Measurement). extended_by c.self.inside.algo c.self.inside.value.bytes
    (parts_with (Pages c.in-Pages.ipa c.in-Pages.key c.in-Pages.count ∷ links) ds) in
    let with_rest = λ (l : Link). extended_by c.self.inside.algo c.self.inside.value.bytes (parts_with (l ∷ links) digests) in
    rw (c.data_descriptor.ensures)
    (sym (page-first c.self.inside.algo c.self.inside.value.bytes links others c.in-Pages.ipa c.in-Pages.key c.in-Pages.count c.in-Some.digest.now
    (omega (arith, c.if-count-gt0-2.true)))
    ∙ ap with_digests (sym c.in-Some.ensures.cases.0) ∙ ap with_rest (sym c.in-Pages.is) ∙ ap chains_to (c.self.view_is ∙ c.take_link.ensures))

pub returns-in-Unmeasured-clause-taken : goal.returns-in-Unmeasured-clause-taken
returns-in-Unmeasured-clause-taken c = λ _.
    let links = c.self.inside.links.now in
    let digests = c.self.inside.digests.now in
    let with_rest = λ (l : Link). extended_by c.self.inside.algo c.self.inside.value.bytes (parts_with (l ∷ links) digests) in
    rw (c.data_descriptor-in-Unmeasured.ensures)
    (sym (unmeasured-first c.self.inside.algo c.self.inside.value.bytes links digests c.in-Unmeasured.ipa c.in-Unmeasured.count
    (omega (arith, c.if-count-gt0-3.true)))
    ∙ ap with_rest (sym c.in-Unmeasured.is) ∙ ap chains_to (c.self.view_is ∙ c.take_link.ensures))

pub returns-in-Rec-clause-taken : goal.returns-in-Rec-clause-taken
returns-in-Rec-clause-taken c = λ _.
    let links = c.self.inside.links.now in
    let digests = c.self.inside.digests.now in
    let with_rest = λ (l : Link). extended_by c.self.inside.algo c.self.inside.value.bytes (parts_with (l ∷ links) digests) in
    rw (c.rec_descriptor.ensures)
    (sym (rec-first c.self.inside.algo c.self.inside.value.bytes links digests c.in-Rec.content)
    ∙ ap with_rest (sym c.in-Rec.is) ∙ ap chains_to (c.self.view_is ∙ c.take_link.ensures))
