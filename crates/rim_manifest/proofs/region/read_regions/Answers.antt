use Rattle.std.proofs.Common.{refl, rules}
use Rattle.std.proofs.lemmas.Iterator.{items_from_collect, YieldsList-from_map, YieldsList-from_slice}
use Rattle.toml.specs.View.{view}
use Rattle.toml.specs.declared.value.Value.{Value}
use Rattle.rim_manifest.specs.Launches.{region_in}
use Rattle.rim_manifest.proofs.region.read_regions.Goals as goal

pub returns : goal.returns
returns c =
    items_from_collect {s = c.map.result} c.collect.result c.collect.ensures.ran
    (YieldsList-from_map {s = c.map.result} _ (λ (v : Value). region_in (view v)) {f = c.map.result.f} (YieldsList-from_slice c.args.pairs.now cc) refl
    (λ x r q k. search rules))
