use Rattle.std.proofs.Common.{arith, ◌∙◌, sym}
use Rattle.std.proofs.lemmas.Bool.{eq-eqb, ne_eqb}
use Rattle.fdt_tree.proofs.NamesInStrings.{end_more}
use Rattle.fdt_tree.proofs.reading.strings.end_of.Goals as goal
use Rattle.fdt_tree.proofs.reading.strings.end_of.Goals.{then-byte-eq0, else-byte-eq0}

pub loop-i-preserved : goal.loop-i-preserved
loop-i-preserved c =
    let h = end_more c.args.bytes.now c.loop-i.i c.loop-i.end (omega arith) c.loop-i.invariant in
    elim c.if-byte-eq0.branch [
      | then-byte-eq0 w ↦ let t = eq-eqb _ _ w.if-byte-eq0.true in w.end-is ∙ sym (rw t at h)
      | else-byte-eq0 w ↦ let f = ne_eqb _ _ w.if-byte-eq0.false in w.end-is ∙ sym (rw f at h)
    ]
