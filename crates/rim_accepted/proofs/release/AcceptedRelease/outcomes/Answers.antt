use Rattle.std.proofs.Common.{subst}
use Rattle.rim_accepted.specs.Outcomes.{IsLaidOut}
use Rattle.rim_accepted.proofs.release.AcceptedRelease.outcomes.Goals as goal

pub returns-clause-own : goal.returns-clause-own
returns-clause-own c = subst IsLaidOut c.self.view_is c.self.invariant
