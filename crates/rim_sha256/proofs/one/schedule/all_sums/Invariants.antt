use Rattle.std.proofs.Common.{◌*◌}
use Rattle.sha_lanes.specs.inside.Pairs.{IsScheduledTo256}
use Rattle.rim_sha256.proofs.one.schedule.all_sums.Given as goal

abbrev pub invariant-schedule : goal.invariant-schedule
invariant-schedule l = IsScheduledTo256 0 1 l.a l.w l.s (16 * l.turn) × IsScheduledTo256 2 3 l.b l.w l.u (16 * l.turn)
