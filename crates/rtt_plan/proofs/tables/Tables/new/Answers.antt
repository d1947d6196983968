use Rattle.std.proofs.Common.{arith, refl, rules}
use Rattle.rmm_model.specs.Apart.{are_apart}
use Rattle.rtt_plan.proofs.tables.Tables.new.Goals as goal

pub invariant_of-result : goal.invariant_of-result
unfolding are_apart
invariant_of-result c = record {
  start = search rules;
  least_level = search rules;
  protected_end = search rules;
  entries = omega arith;
  tables = record { shape = λ level base. rw c.new.ensures.empty (λ m. absurd (cc)) };
  ram = rw c.new-2.ensures.empty refl;
  ram_apart = rw c.new-2.ensures.empty refl;
  assigned = rw c.new-3.ensures.empty refl;
  assigned_apart = rw c.new-3.ensures.empty refl;
}

pub returns : goal.returns
returns c = search rules
