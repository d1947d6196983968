use Rattle.std.proofs.Common.{◌∙◌, List, ap, map, rules, subst, take_all}
use Rattle.std.specs.Prelude.{IsPermutation}
use Rattle.std.proofs.lemmas.Fn.{always_returns_same}
use Rattle.map_rows.specs.Stretches.{row_pages}
use Rattle.map_rows.specs.declared.rows.Row.{Row}
use Rattle.map_rows.specs.declared.stretches.Stretch.{Stretch}
use Rattle.map_rows.proofs.stretches.taken.Goals as goal

pub returns : goal.returns
returns c =
    let all = c.loop-row.invariant ∙ ap (λ (rows : List Row). map row_pages rows) (take_all c.loop-row.row-index c.args.rows.now c.loop-row-test.false) in
    record {
      same = subst (λ (xs : List Stretch). IsPermutation xs c.sort_unstable_by_key.new.self.items) all c.sort_unstable_by_key.ensures.permutation;
      sorted = c.sort_unstable_by_key.ensures.sorted (λ s. s.base) (always_returns_same _ _ _ (λ a r g called. (search rules, search rules)));
    }
