use Rattle.std.proofs.Common.{◌≡◌, ◌≤◌, ◌++◌}
use Rattle.std.specs.Prelude.{vec_capacity}
use Rattle.rim_accepted.specs.Lines.{lines_with}
use Rattle.rim_accepted.proofs.lines.push_lines.Given as goal

abbrev pub invariant-loop-launch : goal.invariant-loop-launch
invariant-loop-launch l =
    (l.text.items ++ lines_with l.launch-iterator.a.rest.now l.launch-iterator.b.rest.now ≡ l.initial.text.items ++ lines_with l.launches l.outcomes)
    × (vec_capacity l.initial.text ≤ vec_capacity l.text)
