-- One command. DEN0137, failure conditions and success conditions of the RMI commands.
use Rattle.std.specs.Prelude.{Result}
use Rattle.rim_desc.specs.declared.command.Command.{Command}
use Rattle.rmm_model.specs.declared.outcome.Refused.{Refused}
use Rattle.rmm_model.specs.State.{State}
use Rattle.refusal.specs.Checks.{unless_refused}
use Rattle.rmm_model.specs.Checks.{checks}
use Rattle.rmm_model.specs.Effects.{changed, measured, parts}

-- the step of a command: its first check that holds, or the next state
abbrev pub step : State → Command → Result State Refused
step s c = unless_refused (checks s c) (measured (changed s c) (parts s c))
