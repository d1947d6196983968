use Rattle.map_rows.proofs.GapsAreTheRest.{inside, rest}
use Rattle.map_rows.proofs.laws.gaps_are_the_rest.Goals as goal

pub returns-clause-rest : goal.returns-clause-rest
returns-clause-rest c = rest

pub returns-clause-inside : goal.returns-clause-inside
returns-clause-inside c = inside
