use Rattle.std.proofs.Common.{◌≡◌, fold, map, false, drop}
use Rattle.clap.specs.Words.{app_of}
use Rattle.clap.specs.declared.builder.command.Command.TheViews.{out-Command}
use Rattle.rim_words.specs.Command.{with_command}
use Rattle.rim_words.specs.inside.Table.{command_in}
use Rattle.rim_words.proofs.definition.with_commands.Given as goal

-- the subcommands so far and those to come are all of them
abbrev pub invariant-loop-row : goal.invariant-loop-row
invariant-loop-row l = record {
  shape : fold with_command (app_of l.command) (map command_in (drop l.row-index l.rows))
      ≡ fold with_command (app_of l.fn.command) (map command_in l.rows);
  globals : (out-Command l.command).has_globals ≡ false;
}
