use Rattle.std.proofs.Common.{arith}
use Rattle.rmi_line.proofs.TakenWords.{same_number}
use Rattle.rmi_line.proofs.reader.Words.count.Goals as goal

pub returns-then-count-gt-AUX_LIMIT-clause-taken : goal.returns-then-count-gt-AUX_LIMIT-clause-taken
returns-then-count-gt-AUX_LIMIT-clause-taken c = record {
  found = λ others left. cc left.whole;
  only = λ n others few left.
      let after = c.number-count.ensures.only n others (omega arith) left in
      let same = same_number c.args.self.now n c.number-count.result others (omega arith) (omega arith) left (c.number-count.ensures.found others after) in
      absurd (omega (arith, same));
}
