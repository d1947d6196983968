use Rattle.rim_audit.proofs.MonitorFollows.{has-rim}
use Rattle.rim_audit.proofs.commands.LaunchCommands.rim.Goals as goal

pub unreachable-requires : goal.unreachable-requires
unreachable-requires c = has-rim c.args.self.now c.args.monitor.now c.rim.result c.requires c.rim.ensures c.in-None.is
