use Rattle.rmi_line.proofs.TakenWords.{left_after, left_before}
use Rattle.rmi_line.proofs.reader.Words.word.Goals as goal

pub returns-else-not-takes : goal.returns-else-not-takes
returns-else-not-takes c =
    let taken = c.takes.ensures.taken c.if-not-takes.false in
    record {
      found = λ others left. left_before c.args.self.now c.takes.new.self c.args.word.now others c.takes.ensures.whole taken left;
      only = λ value others any left. left_after c.args.self.now c.takes.new.self c.args.word.now others c.takes.ensures.whole taken left;
    }
