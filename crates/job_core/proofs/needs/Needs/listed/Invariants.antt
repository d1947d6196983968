use Rattle.std.proofs.Common.{map, take}
use Rattle.job_core.specs.inside.Reaches.{IsListed}
use Rattle.job_core.proofs.needs.Needs.listed.Given as goal

abbrev pub invariant-loop-launch : goal.invariant-loop-launch
invariant-loop-launch l = IsListed l.pages l.groups.items (take l.launch (map (λ v. v.items) l.lists.items))
