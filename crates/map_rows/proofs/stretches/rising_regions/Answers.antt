use Rattle.std.proofs.Common.{◌∙◌, List, ap, map, rules, subst, take_all}
use Rattle.std.specs.Prelude.{IsPermutation}
use Rattle.std.proofs.lemmas.Fn.{always_returns_same}
use Rattle.rim_launch.specs.declared.item.Region.{Region}
use Rattle.map_rows.specs.Stretches.{region_stretch}
use Rattle.map_rows.specs.declared.stretches.Stretch.{Stretch}
use Rattle.map_rows.proofs.stretches.rising_regions.Goals as goal

pub returns : goal.returns
returns c =
    let all = c.loop-region.invariant ∙ ap (λ (ram : List Region). map region_stretch ram) (take_all c.loop-region.region-index c.args.ram.now
    c.loop-region-test.false) in
    record {
      same = subst (λ (xs : List Stretch). IsPermutation xs c.sort_unstable_by_key.new.self.items) all c.sort_unstable_by_key.ensures.permutation;
      sorted = c.sort_unstable_by_key.ensures.sorted (λ s. s.base) (always_returns_same _ _ _ (λ a r g called. (search rules, search rules)));
    }
