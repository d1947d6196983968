use Rattle.std.proofs.Common.{◌∙◌, [], ap}
use Rattle.rim_desc.specs.Part.{extended_by}
use Rattle.launch_plan.specs.Links.{parts_with}
use Rattle.launch_plan.specs.declared.link.Link.TheVariants.{Unmeasured}
use Rattle.rim_chain.specs.Chains.{ChainView}
use Rattle.rim_chain.proofs.PartByPart.{empty-first, none-left}
use Rattle.rim_chain.proofs.under_way.LaunchChain.finish.Goals as goal

pub returns : goal.returns
unfolding parts_with
returns c = (
  ap (λ (v : ChainView). v.algo) c.self.view_is,
  ap (λ (v : ChainView). v.end) c.self.view_is,
  ap (extended_by c.self.inside.algo c.finished-self-inside.result.bytes) (empty-first (Unmeasured 0 0) [] [] none-left)
      ∙ c.finished-self-inside.ensures,
)
