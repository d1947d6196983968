-- Reading one thing after another into a list, as a loop does: what was read, and what is still read.
use Rattle.std.proofs.Common.{◌≡◌, List, [], ◌++◌, Result, Ok, Err, sym, ap, ◌∙◌, append_assoc, refl}
use Rattle.std.proofs.lemmas.List.{append-nil}
use Rattle.fdt_header.specs.declared.fault.FdtFault.{FdtFault}
use Rattle.refusal.specs.Answer.{with_front}

regroup : {A : Type 0} (front new : List A) (more : Result (List A) FdtFault) → with_front front (with_front new more) ≡ with_front (front ++ new) more
regroup {A} front new (Ok xs) = ap (λ (ys : List A). Ok ys) (sym (append_assoc front new xs))
regroup front new (Err f) = refl

pub goes_on : {A : Type 0} (front new front' : List A) (now more total : Result (List A) FdtFault) → now ≡ with_front new more → front' ≡ front ++ new
    → with_front front now ≡ total → with_front front' more ≡ total
goes_on front new front' now more total e f so_far = rw f (sym (regroup front new more) ∙ ap (with_front front) (sym e) ∙ so_far)

pub ends : {A : Type 0} (front : List A) (now total : Result (List A) FdtFault) → now ≡ Ok [] → with_front front now ≡ total → total ≡ Ok front
ends {A} front now total e so_far = sym so_far ∙ ap (with_front front) e ∙ ap (λ (xs : List A). Ok xs) (append-nil front)

pub fails : {A : Type 0} (front : List A) (now total : Result (List A) FdtFault) (f : FdtFault) → now ≡ Err f → with_front front now ≡ total → total ≡ Err f
fails front now total f e so_far = sym so_far ∙ ap (with_front front) e
