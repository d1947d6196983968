use Rattle.std.proofs.Common.{◌≡◌, ◌++◌, take}
use Rattle.std.specs.List.{All, flat_map}
use Rattle.rmi_line.specs.Ends.{command_line}
use Rattle.rmi_line.specs.Typed.{IsTyped}
use Rattle.rim_audit.specs.inside.Beside.{IsOwn}
use Rattle.rim_audit.specs.inside.Commands.{commands_in, state_after}
use Rattle.rim_audit.proofs.listings.push_commands.Given as goal

-- the monitor was given the commands before this one, their lines were added, and what is known is of the launch
abbrev pub invariant-loop-index : goal.invariant-loop-index
invariant-loop-index l = record {
  monitor : l.monitor ≡ state_after l.commands l.index;
  text : l.text.items ≡ l.initial.text.items ++ flat_map command_line (take l.index (commands_in l.commands));
  typed : All IsTyped (take l.index (commands_in l.commands));
  own : IsOwn l.commands l.beside;
}
