use Rattle.std.proofs.Common.{ℕ, arith, rules, refl}
use Rattle.std.proofs.lemmas.Iterator.{YieldsList-from_map, YieldsList-from_range}
use Rattle.std.proofs.lemmas.Result.{on_ok_weaker}
use Rattle.std.proofs.lemmas.Iterator.Adapters.{items_from_extend}
use Rattle.rim_launch.specs.declared.step.Step.TheVariants as step
use Rattle.rim_launch.proofs.step.push_regions.Goals as goal

pub returns : goal.returns
returns c =
    let all = items_from_extend {s = c.map.result} c.extend.result c.extend.ensures.ran (YieldsList-from_map {s = c.map.result} _ (λ (n : ℕ). step.Ram n) {f = c.map.result.f} (YieldsList-from_range 0 c.args.count c.args.count (cc) (omega arith)) refl (λ x r q k. search rules)) in
    on_ok_weaker c.extend.result (λ h. h.0) all
