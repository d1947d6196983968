use Rattle.std.proofs.Common.{ℕ, ◌+◌, ◌++◌, ◌∙◌, List, ap, rules}
use Rattle.std.specs.Prelude.{Option}
use Rattle.rim_launch.specs.LaunchData.{LaunchData}
use Rattle.rim_launch.specs.declared.config.Config.{Config}
use Rattle.rmm_model.specs.State.{State}
use Rattle.rim_audit.specs.Trace.{line_if_held, rim_held, trace_lines}
use Rattle.rim_audit.specs.inside.Commands.{state_after}
use Rattle.rim_audit.proofs.LinesOfTraces.{line-next}
use Rattle.rim_audit.proofs.trace.trace.Goals as goal

pub loop-index-init : goal.loop-index-init
unfolding trace_lines
loop-index-init c = search rules

pub loop-index-preserved : goal.loop-index-preserved
loop-index-preserved c =
    let command = c.in_ok-command.command in
    let text = c.loop-index.text.items in
    let held = rim_held (state_after c.args.commands.now (c.loop-index.index + 1)) command in
    record {
      monitor = c.in_ok-command.ensures.after;
      text = line-next c.args.commands.now c.loop-index.index command text _ c.in_ok-command.ensures.command c.loop-index.invariant.text
          (c.in_ok-push_step.ensures
          ∙ ap (λ (rim : Option (List ℕ)). text ++ line_if_held c.config-algo.result.algo rim command)
          (c.rim_held-rim.ensures ∙ ap (λ (s : State). rim_held s command) c.in_ok-command.ensures.after)
          ∙ ap (λ (x : Config). text ++ line_if_held x.algo held command)
          (c.config-algo.ensures.value ∙ ap (λ (l : LaunchData). l.config) c.launch.ensures));
      own = c.in_ok-command.ensures.own;
    }
