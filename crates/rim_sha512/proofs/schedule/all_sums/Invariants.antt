use Rattle.std.proofs.Common.{◌*◌}
use Rattle.sha_lanes.specs.inside.Pairs.{IsScheduledTo512}
use Rattle.rim_sha512.proofs.schedule.all_sums.Given as goal

abbrev pub invariant-schedule : goal.invariant-schedule
invariant-schedule l = IsScheduledTo512 l.block l.w l.sums (16 * l.turn)
