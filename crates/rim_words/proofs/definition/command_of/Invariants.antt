use Rattle.std.proofs.Common.{◌≡◌, fold, map, false, drop}
use Rattle.clap.specs.Words.{app_of, new_app, with_rule}
use Rattle.clap.specs.declared.builder.command.Command.TheViews.{out-Command}
use Rattle.rim_words.specs.inside.Table.{rule_in}
use Rattle.rim_words.proofs.definition.command_of.Given as goal

-- the arguments so far and those to come are all of them
abbrev pub invariant-loop-argument : goal.invariant-loop-argument
invariant-loop-argument l = record {
  shape : fold with_rule (app_of l.command) (map rule_in (drop l.argument-index l.argument-items))
      ≡ fold with_rule (new_app l.row.name.now) (map rule_in l.row.arguments.now);
  globals : (out-Command l.command).has_globals ≡ false;
}
