use Rattle.std.proofs.Common.{◌≡◌, ℕ, List, inl, inr}
use Rattle.std.specs.Prelude.{Result, Ok, Err, IfOk, IfErr}
use Rattle.std.specs.Result.{IsErrAnd}
use Rattle.fdt_tree.specs.Reading.{IsRefusal, refusal_of}
use Rattle.fdt_header.specs.declared.fault.FdtFault.{FdtFault}
use Rattle.fdt_header.specs.declared.fault.FdtFault.TheVariants as fdt
use Rattle.rim_show.specs.ShownDevicetree.{IsDevicetreeFault}
use Rattle.rim_show.specs.ShowFaults.{shown_fault}
use Rattle.rim_show.specs.declared.fault.ShowFault.{ShowFault}
use Rattle.rim_show.proofs.devicetree.show_fdt.Goals as goal

own_fault : (bytes : List ℕ) (fault : FdtFault) (shown : ShowFault) → IsRefusal fault (refusal_of bytes) → shown ≡ shown_fault fault → IsDevicetreeFault bytes shown
own_fault bytes fdt.NoMemory shown h e = rw e tt
own_fault bytes fault shown (inl memory) e = absurd (cc)
own_fault bytes fault shown (inr h) e = rw e h

refused : {X : Type 0} (P : X → Type 0) (bytes : List ℕ) (fault : FdtFault) (r : Result X ShowFault) → IsRefusal fault (refusal_of bytes)
    → IsErrAnd r (λ shown. shown ≡ shown_fault fault) → IfOk r P × IfErr r (IsDevicetreeFault bytes)
refused P bytes fault (Ok x) h e = absurd e
refused P bytes fault (Err shown) h e = (tt, own_fault bytes fault shown h e)

pub returns-in_err-tree : goal.returns-in_err-tree
returns-in_err-tree c =
    let both = refused _ c.args.bytes.now c.in_err-tree.field-0.0 c.from_residual.result c.in_err-tree.ensures.refused c.from_residual.ensures.1 in
    record { shown = both.0; refused = both.1 }
