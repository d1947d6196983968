use Rattle.std.proofs.Common.{sym, ◌∙◌}
use Rattle.std.proofs.lemmas.Bool.Decides.{Decides-eqb}
use Rattle.std.proofs.lemmas.Slice.Eq.{slice_eq-Decides}
use Rattle.rmi_line.proofs.TakenWords.{same_front}
use Rattle.rmi_line.proofs.reader.Words.takes.Goals as goal

pub returns-in_default-clause-other : goal.returns-in_default-clause-other
returns-in_default-clause-other c = λ not rest same.
    let next = c.in-Some.ensures in
    let equal = same_front c.in-Some.found.now c.args.word.now c.in-Some.rest.now rest next.1 (sym next.0 ∙ same) in
    cc (c.if-eq.false, (slice_eq-Decides Decides-eqb c.in-Some.found.now c.args.word.now c.eq.result c.eq.ensures).1 equal)
