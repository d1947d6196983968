use Rattle.std.proofs.Common.{sym, subst}
use Rattle.std.proofs.lemmas.List.Elements.{All-more}
use Rattle.std.proofs.lemmas.Option.{get_or_from_slice_get, slice_get_within}
use Rattle.rmi_line.specs.Ends.{command_line}
use Rattle.rmi_line.specs.Typed.{IsTyped}
use Rattle.rim_audit.specs.inside.Commands.{commands_in}
use Rattle.rim_accepted.proofs.LinesOfLaunches.{line-next}
use Rattle.rim_audit.proofs.listings.push_commands.Goals as goal

pub loop-index-preserved : goal.loop-index-preserved
loop-index-preserved c =
    let cs = commands_in c.args.commands.now in
    let at = c.in_ok-command.ensures.command in
    record {
      monitor = c.in_ok-command.ensures.after;
      text = line-next command_line _ _ _ cs c.loop-index.index c.in_ok-command.command at c.loop-index.invariant.text c.in_ok-push_command.ensures.text;
      typed =
          All-more IsTyped cs c.loop-index.index c.in_ok-command.command
          (slice_get_within cs c.loop-index.index c.in_ok-command.command at) c.loop-index.invariant.typed
          (subst IsTyped (sym (get_or_from_slice_get cs c.loop-index.index c.in_ok-command.command c.in_ok-command.command at))
          c.in_ok-push_command.ensures.typed);
      own = c.in_ok-command.ensures.own;
    }
