use Rattle.rim_audit.proofs.LinesOfTraces.{traces-end, traces-show}
use Rattle.rim_audit.proofs.laws.a_trace_shows_what_a_monitor_holds.Goals as goal

pub returns-clause-each : goal.returns-clause-each
returns-clause-each c = traces-show

pub returns-clause-last : goal.returns-clause-last
returns-clause-last c = traces-end
