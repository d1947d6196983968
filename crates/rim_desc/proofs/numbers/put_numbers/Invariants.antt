use Rattle.std.proofs.Common.{◌≡◌, drop}
use Rattle.rim_desc.specs.Page.{with_fields}
use Rattle.rim_desc.specs.Numbers.{number_fields}
use Rattle.rim_desc.proofs.numbers.put_numbers.Given as goal

-- the fields of the rows before `at` are in the page
abbrev pub invariant-loop-at : goal.invariant-loop-at
invariant-loop-at l = with_fields l.page (drop l.at (number_fields l.numbers)) ≡ with_fields l.initial.page (number_fields l.numbers)
