use Rattle.std.proofs.Common.{refl, ◌≡◌, ℕ, zero, suc, arith}
use Rattle.rmm_model.specs.Blocks.{size}
use Rattle.rmm_model.proofs.size.size_of_level.Goals as goal

deep : (l : ℕ) → (l ≡ 0 → ⊥) → (l ≡ 1 → ⊥) → (l ≡ 2 → ⊥) → 4096 ≡ size l
unfolding size
deep zero a b c = absurd (a refl)
deep (suc zero) a b c = absurd (b refl)
deep (suc (suc zero)) a b c = absurd (c refl)
deep (suc (suc (suc n))) a b c = refl

pub returns-in-0-clause-value : goal.returns-in-0-clause-value
unfolding size
returns-in-0-clause-value c = rw c.in-0.is refl

pub returns-in-1-clause-value : goal.returns-in-1-clause-value
unfolding size
returns-in-1-clause-value c = rw c.in-1.is refl

pub returns-in-2-clause-value : goal.returns-in-2-clause-value
unfolding size
returns-in-2-clause-value c = rw c.in-2.is refl

pub returns-in_default-clause-value : goal.returns-in_default-clause-value
returns-in_default-clause-value c = deep c.args.level (omega arith) (omega arith) (omega arith)
