use Rattle.std.proofs.Common.{ℕ, rules, refl}
use Rattle.std.proofs.lemmas.Iterator.{items_from_collect, YieldsList-from_map, YieldsList-from_slice}
use Rattle.std.proofs.lemmas.Iterator.Consumers.{YieldsList-from_enumerate}
use Rattle.rim_launch.specs.declared.rec.Rec.{Rec}
use Rattle.ipa_layout.specs.Rec.{rec_of}
use Rattle.ipa_layout.proofs.layout.recs_at.Goals as goal

pub returns : goal.returns
returns c =
    let numbered = YieldsList-from_enumerate {s = c.map.result.iter} (YieldsList-from_slice c.args.recs.now cc) cc in
    items_from_collect {s = c.map.result} c.collect.result c.collect.ensures.ran (YieldsList-from_map {s = c.map.result} _ (λ (r : ℕ × Rec). rec_of r.0 c.args.kernel c.args.dtb r.1) {f = c.map.result.f} numbered refl (λ x r q k. search rules))
