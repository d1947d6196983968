use Rattle.std.proofs.Common.{arith}
use Rattle.rim_audit.proofs.GroupsOfPages.{kept_digest}
use Rattle.rim_audit.proofs.commands.LaunchCommands.keep_group.Goals as goal

pub keep-requires-clause-content : goal.keep-requires-clause-content
keep-requires-clause-content c = c.requires.group c.loop-k.k _
    (kept_digest c.args.group.now.digests.all c.args.group.now.digests.count c.loop-k.k _ (omega arith) (omega arith))

pub keep-requires-clause-own : goal.keep-requires-clause-own
keep-requires-clause-own c = c.loop-k.invariant
