use Rattle.std.proofs.Common.{codes}
use Rattle.std.proofs.lemmas.Result.{err_from_is_err_and}
use Rattle.std.specs.Int.{w64, to_be_bytes}
use Rattle.fdt_tree.specs.Devicetree.{Devicetree}
use Rattle.fdt_tree.specs.Trees.{devicetree_of}
use Rattle.ipa_layout.specs.DtbEdit.{chosen}
use Rattle.ipa_layout.proofs.EditAfterEdit.{fails_on, gives_after}
use Rattle.ipa_layout.proofs.dtb_edit.put_initrd.Goals as goal

pub returns-in_err-put_address : goal.returns-in_err-put_address
returns-in_err-put_address c =
    let p = err_from_is_err_and c.from_residual.result c.from_residual.ensures.1 in
    let next : Devicetree → _ = λ t. chosen (codes "linux,initrd-end") (to_be_bytes w64 c.in-Some.span.end) t in
    rw (p.1, p.2, c.in-Some.is) (fails_on c.in_err-put_address.field-0.0 _ next c.in_err-put_address.ensures)

pub returns : goal.returns
returns c =
    let next : Devicetree → _ = λ t. chosen (codes "linux,initrd-end") (to_be_bytes w64 c.in-Some.span.end) t in
    rw c.in-Some.is (gives_after _ c.put_address-2.result _ (devicetree_of c.put_address.new.tree) next c.in_ok-put_address.ensures c.put_address-2.ensures)
