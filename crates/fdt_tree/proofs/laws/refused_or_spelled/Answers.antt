use Rattle.fdt_tree.proofs.UnrefusedIsSpelled.{refused_or_spelled, no_refusal}
use Rattle.fdt_tree.proofs.laws.refused_or_spelled.Goals as goal

pub returns-clause-spelled : goal.returns-clause-spelled
returns-clause-spelled c = refused_or_spelled

pub returns-clause-refused : goal.returns-clause-refused
returns-clause-refused c = no_refusal
