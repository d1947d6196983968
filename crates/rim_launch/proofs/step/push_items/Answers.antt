use Rattle.std.proofs.Common.{ℕ, rules, refl}
use Rattle.std.proofs.lemmas.Iterator.{YieldsList-from_map, YieldsList-from_slice}
use Rattle.std.proofs.lemmas.Iterator.Consumers.{YieldsList-from_enumerate, YieldsList-from_filter}
use Rattle.std.proofs.lemmas.Result.{on_ok_weaker}
use Rattle.std.proofs.lemmas.Iterator.Adapters.{items_from_extend}
use Rattle.rim_launch.specs.declared.item.Item.{Item}
use Rattle.rim_launch.specs.declared.step.Step.TheVariants as step
use Rattle.rim_launch.specs.Kinds.{has_role}
use Rattle.rim_launch.proofs.step.push_items.Goals as goal

pub returns : goal.returns
returns c =
    let numbered = YieldsList-from_enumerate {s = c.map.result.iter.iter} (YieldsList-from_slice c.args.items.now cc) cc in
    let all = items_from_extend {s = c.map.result} c.extend.result c.extend.ensures.ran (YieldsList-from_map {s = c.map.result} _ (λ (p : ℕ × Item). step.Item p.0) {f = c.map.result.f}
    (YieldsList-from_filter {s = c.map.result.iter} _ (λ (p : ℕ × Item). has_role c.args.role p.1) {f = c.map.result.iter.p} numbered refl (λ x r q k. search rules)) refl (λ x r q k. search rules)) in
    on_ok_weaker c.extend.result (λ h. h.0) all
