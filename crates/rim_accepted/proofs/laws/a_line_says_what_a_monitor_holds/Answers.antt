use Rattle.rim_accepted.proofs.LinesAreTrue.{accepted-are-measured, refused-are-named}
use Rattle.rim_accepted.proofs.laws.a_line_says_what_a_monitor_holds.Goals as goal

pub returns-clause-accepted : goal.returns-clause-accepted
returns-clause-accepted c = accepted-are-measured

pub returns-clause-refused : goal.returns-clause-refused
returns-clause-refused c = refused-are-named
