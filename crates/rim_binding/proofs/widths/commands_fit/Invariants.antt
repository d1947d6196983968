use Rattle.std.proofs.Common.{ℕ, ◌<◌, get_or}
use Rattle.rim_desc.specs.declared.command.Command.{Command}
use Rattle.rim_binding.specs.Widths.{FitsCommand}
use Rattle.rim_binding.proofs.widths.commands_fit.Given as goal

abbrev pub invariant-loop-command : goal.invariant-loop-command
invariant-loop-command l = (k : ℕ) (d : Command) → k < l.command-index → FitsCommand (get_or l.commands k d)
