use Rattle.std.proofs.Common.{◌≢◌, ◌++◌, Some, None}
use Rattle.std.specs.Prelude.{codes}
use Rattle.std.specs.Fmt.{decimal}
use Rattle.rim_desc.specs.Rule.{rule_word}
use Rattle.rmi_line.specs.Ends.{first_line}
use Rattle.rmi_line.proofs.ends.read_first.Goals as goal

pub returns : goal.returns
returns c = λ n rule few. elim rule as (λ r. c.args.line.now ≢ first_line n r) [
  | None ↦ c.in_default.ensures (codes " " ++ decimal n)
  | Some r ↦ c.in_default-after.ensures (codes " " ++ (decimal n ++ (codes " rec " ++ rule_word r)))
]
