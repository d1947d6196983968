-- What the fields of a REC's parameters keep. This project's choice.
use Rattle.std.specs.Prelude.{◌≡◌, ◌-◌, ◌≤◌, ◌++◌, length, take, drop, replicate, refl}
use Rattle.std.proofs.Common.{arith, sym, ◌∙◌, ap}
use Rattle.std.proofs.lemmas.List.{length-take-le, take-append-drop}
use Rattle.rim_desc.specs.declared.rec.RecParams.TheInside.{Inside}
use Rattle.rim_desc.specs.declared.rec.TheConstants.{AUX_LIMIT}

-- at most AUX_LIMIT auxiliary granules, and zeros in the other places
pub record IsWellFormed (r : Inside) : Type 0 where
  pub most : r.num_aux ≤ AUX_LIMIT
  pub places : length r.aux ≡ AUX_LIMIT
  pub others : drop r.num_aux r.aux ≡ replicate (AUX_LIMIT - r.num_aux) 0

-- the fields are those that the view gives back
pub fields_again : (r : Inside) → IsWellFormed r
    → let n = length (take r.num_aux r.aux) in
    let again : Inside = record { flags = r.flags; mpidr = r.mpidr; pc = r.pc; gprs = r.gprs; num_aux = n; aux = take r.num_aux r.aux ++ replicate (AUX_LIMIT - n) 0 } in
    again ≡ r
fields_again r h =
    let room : r.num_aux ≤ length r.aux = omega (arith, h.most, h.places) in
    let count : length (take r.num_aux r.aux) ≡ r.num_aux = length-take-le r.num_aux r.aux room in
    let whole : take r.num_aux r.aux ++ replicate (AUX_LIMIT - r.num_aux) 0 ≡ r.aux =
    ap (λ zs. take r.num_aux r.aux ++ zs) (sym h.others) ∙ take-append-drop r.num_aux r.aux in
    rw (count, whole) refl
