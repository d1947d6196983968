-- What is known of an error that may be a refusal of memory.
use Rattle.std.proofs.Common.{◌≡◌, ℕ, ◌≤◌, ◌⊎◌, Result, Ok, Err, arith, inl, inr}
use Rattle.fdt_header.specs.declared.fault.FdtFault.{FdtFault}
use Rattle.fdt_header.specs.declared.fault.FdtFault.TheVariants.{NoMemory}
use Rattle.fdt_tree.specs.inside.NameTables.{TooMuch}

-- where something is found, want of memory is the only fault
pub fails_ok : {X Y : Type 0} (e : FdtFault) (x : X) (y : Y) (read : Result X FdtFault) → read ≡ Ok x
    → (e ≡ NoMemory) ⊎ (read ≡ Err e) → (e ≡ NoMemory) ⊎ ((let r : Result Y FdtFault = Ok y in r) ≡ Err e)
fails_ok e x y read h (inl memory) = inl memory
fails_ok e x y read h (inr q) = absurd (let z : ⊥ = cc in z)

pub more_than : (e : FdtFault) (m n : ℕ) → m ≤ n → TooMuch e m → TooMuch e n
more_than e m n le (inl memory) = inl memory
more_than e m n le (inr much) = inr (much.0, omega (arith, much.1))
