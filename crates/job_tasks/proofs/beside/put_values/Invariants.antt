use Rattle.std.proofs.Common.{◌≡◌, length, map, take}
use Rattle.std.specs.Option.{option_map}
use Rattle.rim_chain.specs.Jobs.{JobView}
use Rattle.job_tasks.proofs.beside.put_values.Given as goal

abbrev pub invariant-loop-i : goal.invariant-loop-i
invariant-loop-i g l = (length l.values ≡ length l.tasks) × (take l.i l.values ≡ map (option_map (λ (t : JobView). t.number)) (take l.i l.tasks))
