use Rattle.std.proofs.Common.{◌≡◌, take}
use Rattle.rim_audit.specs.Trace.{trace_with}
use Rattle.rim_audit.specs.inside.Beside.{IsOwn}
use Rattle.rim_audit.specs.inside.Commands.{commands_in, state_after}
use Rattle.rim_audit.proofs.trace.trace.Given as goal

-- the monitor was given the commands before this one, their lines were added, and what is known is of the launch
abbrev pub invariant-loop-index : goal.invariant-loop-index
invariant-loop-index l = record {
  monitor : l.monitor ≡ state_after l.commands l.index;
  text : l.text.items ≡ trace_with l.commands.accepted.named.now.launch (take l.index (commands_in l.commands));
  own : IsOwn l.commands l.beside;
}
