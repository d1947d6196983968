use Rattle.std.proofs.Common.{ap, Ok, arith}
use Rattle.std.proofs.lemmas.Result.{err_from_is_err_and}
use Rattle.fdt_tree.specs.Devicetree.{Devicetree}
use Rattle.fdt_tree.specs.Reading.{parts_of}
use Rattle.fdt_tree.specs.Wholeness.{tree_in}
use Rattle.fdt_tree.proofs.SpellingOfScan.{IsBytes}
use Rattle.fdt_tree.proofs.ReadIsSpelled.{reads_spelled, spelled_reads, spelled_whole, one_tree}
use Rattle.fdt_tree.proofs.Faults.{fails_ok}
use Rattle.fdt_tree.proofs.TreeAtIsSpelled.{parts_tree}
use Rattle.fdt_tree.proofs.reading.read.Goals as goal

pub returns-in_err-contents-clause-only : goal.returns-in_err-contents-clause-only
returns-in_err-contents-clause-only c = λ t s.
    let p = err_from_is_err_and c.from_residual.result c.from_residual.ensures.1 in
    rw (p.1, p.2) (fails_ok c.in_err-contents.field-0.0 (parts_of t) t _ (spelled_reads c.args.bytes.now t s) c.in_err-contents.ensures.exact)

pub of-requires-clause-whole : goal.of-requires-clause-whole
of-requires-clause-whole c =
    let fits : IsBytes c.args.bytes.now = λ i. omega (arith, c.type_inv.bytes i) in
    let t = tree_in c.in_ok-contents.contents in
    spelled_whole c.args.bytes.now t (reads_spelled c.args.bytes.now t fits c.in_ok-contents.ensures.exact)

pub returns-clause-found : goal.returns-clause-found
returns-clause-found c =
    let fits : IsBytes c.args.bytes.now = λ i. omega (arith, c.type_inv.bytes i) in
    let t = tree_in c.in_ok-contents.contents in
    rw c.of.ensures (reads_spelled c.args.bytes.now t fits c.in_ok-contents.ensures.exact)

pub returns-clause-only : goal.returns-clause-only
returns-clause-only c = λ t s.
    let fits : IsBytes c.args.bytes.now = λ i. omega (arith, c.type_inv.bytes i) in
    let own = tree_in c.in_ok-contents.contents in
    rw c.of.ensures (ap (λ (x : Devicetree). Ok x) (one_tree c.args.bytes.now t own s (reads_spelled c.args.bytes.now own fits c.in_ok-contents.ensures.exact)))

pub returns-clause-exact : goal.returns-clause-exact
returns-clause-exact c = rw c.of.ensures (parts_tree c.args.bytes.now (tree_in c.in_ok-contents.contents) c.in_ok-contents.ensures.exact)
