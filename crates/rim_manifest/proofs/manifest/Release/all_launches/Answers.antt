use Rattle.std.proofs.Common.{rules, subst}
use Rattle.rim_manifest.specs.Launches.{AreNumbered}
use Rattle.rim_manifest.proofs.manifest.Release.all_launches.Goals as goal

pub returns-clause-value : goal.returns-clause-value
returns-clause-value c = search rules

pub returns-clause-kept : goal.returns-clause-kept
returns-clause-kept c = subst AreNumbered c.self.view_is c.self.invariant
