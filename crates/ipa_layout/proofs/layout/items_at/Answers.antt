use Rattle.std.proofs.Common.{rules, refl}
use Rattle.std.proofs.lemmas.Iterator.{items_from_collect, YieldsList-from_map, YieldsList-from_zip, YieldsList-from_slice}
use Rattle.rim_launch.specs.declared.item.Item.{Item}
use Rattle.ipa_layout.specs.declared.extent.Extent.{Extent}
use Rattle.ipa_layout.specs.Layout.{item_at}
use Rattle.ipa_layout.proofs.layout.items_at.Goals as goal

pub returns : goal.returns
returns c =
    let chain = YieldsList-from_zip {s = c.map.result.iter} (YieldsList-from_slice c.args.items.now cc) (YieldsList-from_slice c.args.extents.now cc) in
    items_from_collect {s = c.map.result} c.collect.result c.collect.ensures.ran (YieldsList-from_map {s = c.map.result} _ (λ (p : Item × Extent). item_at c.args.launch p.0 p.1) {f = c.map.result.f} chain refl (λ x r q k. search rules))
