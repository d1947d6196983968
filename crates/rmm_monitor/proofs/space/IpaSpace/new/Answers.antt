use Rattle.std.proofs.Common.{refl}
use Rattle.rmm_model.specs.Apart.{are_apart}
use Rattle.rmm_monitor.proofs.space.IpaSpace.new.Goals as goal

pub invariant_of-result : goal.invariant_of-result
unfolding are_apart
invariant_of-result c = record {
  start = c.requires.start;
  protected_end = c.requires.protected_end;
  tables = record { shape = λ level base. rw c.new.ensures.empty (λ m. absurd (cc)) };
  ram = rw c.new-2.ensures.empty refl;
}
