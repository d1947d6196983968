use Rattle.rim_audit.specs.inside.Beside.{IsOwn}
use Rattle.rim_audit.proofs.commands.LaunchCommands.keep_group.Given as goal

abbrev pub invariant-loop-k : goal.invariant-loop-k
invariant-loop-k l = IsOwn l.self l.beside
