use Rattle.std.proofs.Common.{◌≡◌, ◌<◌, length, vec_len}
use Rattle.job_workers.proofs.workers.finish.Given as goal

abbrev pub invariant-loop : goal.invariant-loop
invariant-loop g l =
    (vec_len l.shares ≡ g.L.Ledger.parts) × (0 < vec_len l.shares) × (length l.counts ≡ vec_len l.shares) × (length l.values ≡ length g.L.Run.plans)
