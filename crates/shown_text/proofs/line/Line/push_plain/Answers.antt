use Rattle.std.proofs.Common.{rules}
use Rattle.std.proofs.lemmas.List.Folds.{list_all-append}
use Rattle.shown_text.proofs.PlainBytes.{plain-inside}
use Rattle.shown_text.proofs.line.Line.push_plain.Goals as goal

pub invariant_of-self : goal.invariant_of-self
invariant_of-self c = record { inside = search (rules, plain-inside, list_all-append) }
