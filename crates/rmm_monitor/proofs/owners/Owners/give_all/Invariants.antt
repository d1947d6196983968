use Rattle.std.proofs.Common.{◌≡◌, true, drop}
use Rattle.rmm_model.specs.Owners.{give_all}
use Rattle.rmm_monitor.specs.inside.Owned.{all_owned}
use Rattle.rmm_monitor.proofs.owners.Owners.give_all.Given as goal

abbrev pub invariant-loop-granule : goal.invariant-loop-granule
invariant-loop-granule l = record {
  owned : all_owned l.self (drop l.granule-index l.granules) ≡ true;
  left : give_all l.self (drop l.granule-index l.granules) l.kind ≡ give_all l.fn.self l.granules l.kind;
}
