use Rattle.std.proofs.Common.{[]}
use Rattle.job_core.specs.inside.Reaches.{IsListed}
use Rattle.job_core.proofs.needs.single_pages.Given as goal

abbrev pub invariant-loop-first : goal.invariant-loop-first
invariant-loop-first l = IsListed l.first l.groups.items []
