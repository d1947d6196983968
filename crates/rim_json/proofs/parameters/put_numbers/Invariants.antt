use Rattle.std.proofs.Common.{◌≡◌, drop}
use Rattle.serde_json.specs.View.{members_view}
use Rattle.rim_json.specs.ReportJson.{number_counts, with_counts}
use Rattle.rim_json.proofs.parameters.put_numbers.Given as goal

-- the numbers of the rows before `at` are among the members
abbrev pub invariant-loop-at : goal.invariant-loop-at
invariant-loop-at l =
    with_counts (members_view l.members.entries) (drop l.at (number_counts l.numbers))
    ≡ with_counts (members_view l.initial.members.entries) (number_counts l.numbers)
