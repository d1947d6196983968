use Rattle.std.proofs.Common.{◌≡◌, ◌∙◌, ap, subst}
use Rattle.std.specs.Prelude.{Ok, is_ok}
use Rattle.rmm_model.specs.State.{State}
use Rattle.rmm_model.specs.Step.{step}
use Rattle.rim_audit.proofs.MonitorFollows.{given, never-refused, only-memory}
use Rattle.rim_audit.proofs.commands.LaunchCommands.give.Goals as goal

pub want_of_memory-requires : goal.want_of_memory-requires
want_of_memory-requires c =
    let command = c.command_at-command.result in
    let taken = never-refused c.args.self.now c.args.index command c.command_at-command.ensures.command in
    only-memory (step c.args.monitor.now command) c.in-Err.refused _
    (ap (λ (s : State). is_ok (step s command)) c.requires.before ∙ taken) c.in-Err.ensures.exact.0

pub returns-in-Ok-clause-after : goal.returns-in-Ok-clause-after
returns-in-Ok-clause-after c =
    let command = c.command_at-command.result in
    given c.args.self.now c.args.index command c.apply.new.self c.command_at-command.ensures.command
    (subst (λ (s : State). step s command ≡ Ok c.apply.new.self) c.requires.before c.in-Ok.ensures.exact)
