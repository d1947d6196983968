use Rattle.std.proofs.Common.{length}
use Rattle.job_board.proofs.closing.+audit_with.Given as goal

abbrev pub decreases-audit_with : goal.decreases-audit_with
decreases-audit_with g l = length l.rest.now
