-- tools/checks/widths.py makes this text from that for SHA-256.
use Rattle.std.proofs.Common.{ℕ, List, ◌*◌, ◌<◌}
use Rattle.sha2.specs.Sha512.{IsRoundsAt, IsWindow, schedule}
use Rattle.sha_lanes.specs.inside.Lanes.{lane, window}
use Rattle.rim_sha512.proofs.lanes.rounds.compress.Given as goal

abbrev pub invariant-schedule : goal.invariant-schedule
invariant-schedule g l = (j : ℕ) (b : List ℕ) → j < g.row.N → IsWindow (window j l.fn.words) (schedule b 64) 16
    → IsRoundsAt b (lane j l.state) (window j l.w) (lane j l.v) (16 * l.turn)
