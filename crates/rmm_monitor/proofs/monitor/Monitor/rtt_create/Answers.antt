use Rattle.std.proofs.lemmas.Grind.{common_steps}
use Rattle.std.proofs.Common.{◌≡◌, ◌-◌, ◌<◌, ◌≤◌, ◌%◌, ℕ, suc, arith}
use Rattle.rmm_model.specs.Blocks.{down, size, span}
use Rattle.rmm_model.proofs.BlockArithmetic.{down-multiple, size-pos, span-size}
use Rattle.rmm_monitor.proofs.monitor.Monitor.rtt_create.Goals as goal

-- a multiple of an entry one level above is the first address that a table covers
at-table : (level x : ℕ) → 0 < level → level ≤ 3 → x % size (level - 1) ≡ 0 → down (span level) x ≡ x
at-table level x above deepest multiple =
    let e : level ≡ suc (level - 1) = omega arith in
    let lt : level - 1 < 3 = omega arith in
    rw (e, span-size (level - 1) lt) (down-multiple (size (level - 1)) x (size-pos (level - 1)) multiple)

pub add_table-requires-clause-multiple : goal.add_table-requires-clause-multiple
add_table-requires-clause-multiple c = at-table c.args.level c.args.ipa (omega arith) (omega arith) (rw c.size_of_level.ensures.value at c.if-ipa-size_of_level-ne0.false)

pub returns : goal.returns
returns c = grind (arith, common_steps) steps 500000

pub returns-then-not-is_delegated : goal.returns-then-not-is_delegated
returns-then-not-is_delegated c = grind (arith, common_steps) steps 500000

pub returns-in_err-add_table : goal.returns-in_err-add_table
returns-in_err-add_table c = grind (arith, common_steps) steps 500000
