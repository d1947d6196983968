-- One step after another: the first that fails decides, and where it does not fail the next one does.
use Rattle.std.proofs.Common.{◌≡◌, ◌⊎◌, Result, Ok, Err, inl, inr, sym, ap, subst}
use Rattle.fdt_header.specs.declared.fault.FdtFault.{FdtFault}
use Rattle.fdt_header.specs.declared.fault.FdtFault.TheVariants.{NoMemory}
use Rattle.refusal.specs.Answer.{◌>>=◌, Answers}

-- an error of what is to give this
abbrev pub Fails : {Y : Type 0} → FdtFault → Result Y FdtFault → Type 0
Fails e wanted = (e ≡ NoMemory) ⊎ (wanted ≡ Err e)

-- where the first fails
pub fails_on : {X Y : Type 0} (e : FdtFault) (first : Result X FdtFault) (next : X → Result Y FdtFault) → Fails e first → Fails e (first >>= next)
fails_on e first next (inl memory) = inl memory
fails_on {X} e first next (inr h) = inr (ap (λ (r : Result X FdtFault). r >>= next) h)

-- where it does not
pub gives_after : {X Y Z : Type 0} (view : X → Z) (r : Result X FdtFault) (first : Result Y FdtFault) (y : Y) (next : Y → Result Z FdtFault)
    → first ≡ Ok y → Answers NoMemory view r (next y) → Answers NoMemory view r (first >>= next)
gives_after {Y} view r first y next h given = subst (λ (f : Result Y FdtFault). Answers NoMemory view r (f >>= next)) (sym h) given

-- where the one after it fails
pub fails_after : {X Y : Type 0} (e : FdtFault) (first : Result X FdtFault) (x : X) (next : X → Result Y FdtFault) → first ≡ Ok x → Fails e (next x) → Fails e (first >>= next)
fails_after {X} e first x next h given = subst (λ (f : Result X FdtFault). Fails e (f >>= next)) (sym h) given
