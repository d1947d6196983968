use Rattle.std.proofs.Common.{rules}
use Rattle.std.proofs.lemmas.Result.{err_from_is_err_and}
use Rattle.fdt_tree.specs.Writing.{file_of}
use Rattle.ipa_layout.specs.DtbEdit.{edited}
use Rattle.ipa_layout.proofs.EditAfterEdit.{fails_after, fails_on, gives_after}
use Rattle.ipa_layout.proofs.dtb_edit.edited.Goals as goal

pub returns-in_err-tree : goal.returns-in_err-tree
unfolding edited
returns-in_err-tree c = search rules

pub returns-in_err-put_edits : goal.returns-in_err-put_edits
unfolding edited
returns-in_err-put_edits c =
    let p = err_from_is_err_and c.from_residual-in_err-put_edits.result c.from_residual-in_err-put_edits.ensures.1 in
    rw (p.1, p.2) (fails_after c.in_err-put_edits.field-0.0 _ _ _ c.in_ok-tree.ensures.exact (fails_on c.in_err-put_edits.field-0.0 _ file_of c.in_err-put_edits.ensures))

pub returns : goal.returns
unfolding edited
returns c = gives_after _ c.write.result _ _ _ c.in_ok-tree.ensures.exact (gives_after _ c.write.result _ _ file_of c.in_ok-put_edits.ensures c.write.ensures.exact)
