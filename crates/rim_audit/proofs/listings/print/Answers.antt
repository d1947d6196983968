use Rattle.rmi_line.specs.Typed.{Are64Bytes}
use Rattle.rim_accepted.specs.Accepted.{rim_after}
use Rattle.rim_audit.specs.inside.Commands.{commands_in}
use Rattle.rim_audit.proofs.ListingsConfirmed.{says-yes}
use Rattle.rim_audit.proofs.listings.print.Goals as goal

pub returns-clause-confirmed : goal.returns-clause-confirmed
returns-clause-confirmed c =
    let l = c.args.commands.now in
    let fit : Are64Bytes (rim_after l.accepted.named.now.launch (commands_in l)) = rw c.in_ok-rim.ensures.rim at c.in_ok-push_last.ensures.bytes in
    rw (
      c.in_ok-push_last.ensures.text,
      c.in_ok-rim.ensures.text,
      c.in_ok-push_first.ensures,
      c.new-text.ensures.items,
      c.config-config.ensures.value,
      c.launch.ensures,
      c.in_ok-rim.ensures.rim,
    ) (says-yes l c.in_ok-rim.ensures.typed fit)
