use Rattle.std.proofs.Common.{ap, sym}
use Rattle.ipa_layout.specs.Files.{bytes_of_files}
use Rattle.rim_accepted.specs.Reasons.{audit_fault_of}
use Rattle.rim_accepted.proofs.AcceptedLaunches.{commands-are, commands-refused}
use Rattle.rim_accepted.proofs.OutcomesInTurn.{accepted-place}
use Rattle.rim_audit.proofs.laying_out.lay_out.Goals as goal

pub returns-in-Ok-clause-commands : goal.returns-in-Ok-clause-commands
returns-in-Ok-clause-commands c =
    let a = c.in-Ok.listed.accepted in
    let own = rw c.in-Ok.is at c.in_ok-listed.ensures.own in
    sym (rw (← own.0, ← own.1) (commands-are a.named.now.launch (bytes_of_files a.files.now) a.placed c.in-Ok.listed.plan (accepted-place a)
    c.in-Ok.listed.is_plan))

pub returns-in-Err-clause-commands : goal.returns-in-Err-clause-commands
returns-in-Err-clause-commands c =
    let refused = rw c.in-Err.is at c.in_ok-listed.ensures.refused in
    let files = bytes_of_files c.args.loaded.files.now in
    sym (commands-refused c.args.loaded.launch.now.launch files (audit_fault_of c.in-Err.refused.reason) refused.refused)
