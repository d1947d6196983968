use Rattle.std.proofs.Common.{◌≡◌, ◌%◌, ◌^◌, ◌≤◌, ◌<◌, refl, ap, sym, subst, codes, ◌∙◌}
use Rattle.toml.specs.Data.{get}
use Rattle.toml.specs.View.{view}
use Rattle.rim_launch.proofs.SameConfigs.{same-config}
use Rattle.rim_manifest.specs.Launches.{config_of}
use Rattle.rim_rules.specs.inside.NumberRanges.{base_aligned, base_low, is_within, number_from, number_to, number_within}
use Rattle.rim_manifest.proofs.launch.read_config.Goals as goal

pub invariant_of-result : goal.invariant_of-result
invariant_of-result c =
    let d = view c.args.table.now in
    record {
      width = ap (is_within 32 48) c.byte.ensures ∙ number_within 32 48 32 (get (codes "s2sz") d) refl;
      level = subst (λ n. n ≤ 3) (sym c.byte-2.ensures) (number_to 0 3 2 (get (codes "block_level") d) refl);
      aux = subst (λ n. n ≤ 16) (sym c.byte-3.ensures) (number_to 0 16 0 (get (codes "num_aux") d) refl);
      pool_aligned = subst (λ n. n % 65536 ≡ 0) (sym c.pool_base.ensures) (base_aligned (get (codes "pool_base") d));
      pool_low = subst (λ n. n < 2 ^ 48) (sym c.pool_base.ensures) (base_low (get (codes "pool_base") d));
      pool_fits = subst (λ n. (1 ≤ n) × (n ≤ 16777216)) (sym c.number.ensures)
          (number_from 1 16777216 16777216 (get (codes "pool_count") d) refl, number_to 1 16777216 16777216 (get (codes "pool_count") d) refl);
    }

pub returns : goal.returns
unfolding config_of
returns c =
    same-config _ _ c.algorithm.ensures c.byte.ensures c.truth.ensures c.truth-2.ensures c.read_numbers.ensures
    c.digits.ensures c.byte-2.ensures
    c.byte-3.ensures c.rec_rule.ensures c.pool_base.ensures c.number.ensures
