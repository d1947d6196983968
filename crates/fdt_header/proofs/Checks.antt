-- A result that comes after a check is that of the rest where the check is passed.
use Rattle.std.proofs.Common.{◌≡◌, Bool, true, false, cond, Result, Ok, Err, refl}
use Rattle.fdt_header.specs.declared.fault.FdtFault.{FdtFault}

pub unless : {A : Type 0} (b : Bool) (d : FdtFault) (x : Result A FdtFault) (y : A) → cond b (Err d) x ≡ Ok y → (b ≡ false) × (x ≡ Ok y)
unless true d x y e = absurd cc
unless false d x y e = (refl, e)

pub only_if : {A : Type 0} (b : Bool) (d : FdtFault) (x : Result A FdtFault) (y : A) → cond b x (Err d) ≡ Ok y → (b ≡ true) × (x ≡ Ok y)
only_if true d x y e = (refl, e)
only_if false d x y e = absurd cc
