-- Configurations with the same values are the same.
use Rattle.std.proofs.Common.{◌≡◌, ◌<◌, ◌≤◌, ◌^◌, ◌%◌, true}
use Rattle.std.proofs.Math.Bool.{Bool-set}
use Rattle.std.specs.Coded.{×_prop, le_prop}
use Rattle.std.proofs.Math.Nat.{ℕ_set}
use mathlib.Core.HLevel.{is_prop→PathP}
use Rattle.rmm_model.specs.Start.{is_width}
use Rattle.rim_launch.specs.declared.config.Config.{Config}

pub same-config : (a b : Config) → a.algo ≡ b.algo → a.s2sz ≡ b.s2sz → a.sve ≡ b.sve → a.pmu ≡ b.pmu → a.numbers ≡ b.numbers
    → a.rpv ≡ b.rpv → a.block_level ≡ b.block_level → a.num_aux ≡ b.num_aux → a.rec_rule ≡ b.rec_rule
    → a.pool_base ≡ b.pool_base → a.pool_count ≡ b.pool_count → a ≡ b
same-config a b algo s2sz sve pmu numbers rpv block_level num_aux rec_rule pool_base pool_count = λ i. record {
  algo = algo i;
  s2sz = s2sz i;
  sve = sve i;
  pmu = pmu i;
  numbers = numbers i;
  rpv = rpv i;
  block_level = block_level i;
  num_aux = num_aux i;
  rec_rule = rec_rule i;
  pool_base = pool_base i;
  pool_count = pool_count i;
  width = is_prop→PathP (λ j. is_width (s2sz j) ≡ true) (λ j. Bool-set _ _) a.width b.width i;
  level = is_prop→PathP (λ j. block_level j ≤ 3) (λ j. le_prop) a.level b.level i;
  aux = is_prop→PathP (λ j. num_aux j ≤ 16) (λ j. le_prop) a.aux b.aux i;
  pool_aligned = is_prop→PathP (λ j. pool_base j % 65536 ≡ 0) (λ j. ℕ_set _ _) a.pool_aligned b.pool_aligned i;
  pool_low = is_prop→PathP (λ j. pool_base j < 2 ^ 48) (λ j. le_prop) a.pool_low b.pool_low i;
  pool_fits = is_prop→PathP (λ j. (1 ≤ pool_count j) × (pool_count j ≤ 16777216)) (λ j. ×_prop le_prop le_prop) a.pool_fits b.pool_fits i;
}
