use Rattle.std.proofs.Common.{◌≡◌, ◌∙◌, ◌+◌, List, [], ◌∷◌, ◌++◌, ap, drop, fold, map, refl, sym, append_assoc}
use Rattle.std.proofs.lemmas.List.{append-nil, at_drop_more}
use Rattle.clap.specs.Words.{App, Rule, app_of, new_app, with_rule, with_subcommand}
use Rattle.clap.specs.Simple.{on_top}
use Rattle.rim_words.specs.Command.{with_command}
use Rattle.rim_words.specs.inside.Table.{command_in}
use Rattle.rim_words.proofs.definition.with_commands.Goals as goal

-- arguments that are added one after another are all of them
rules_added : (app : App) (rules : List Rule) → fold with_rule app rules ≡ on_top (λ s. record s { rules = s.rules ++ rules }) app
rules_added app [] = ap (λ (rules : List Rule). on_top (λ s. record s { rules = rules }) app) (sym (append-nil app.top.rules))
rules_added app (a ∷ rules) = rules_added (with_rule app a) rules
    ∙ ap (λ (rules : List Rule). on_top (λ s. record s { rules = rules }) app) (append_assoc app.top.rules (a ∷ []) rules)

pub loop-row-preserved : goal.loop-row-preserved
loop-row-preserved c =
    let rows = c.args.rows.now in
    let i = c.loop-row.row-index in
    let before : App = app_of c.loop-row.command in
    let own = c.in_ok-command_of.ensures.shape ∙ rules_added (new_app _) _ in
    let added = c.in_ok-command.ensures.shape c.in_ok-command_of.ensures.globals ∙ ap (λ (app : App). with_subcommand before app.top) own in
    record {
      shape = ap (λ (app : App). fold with_command app (map command_in (drop (i + 1) rows))) added
          ∙ sym (at_drop_more (λ rows. fold with_command before (map command_in rows)) rows i _ c.loop-row-test.true)
          ∙ c.loop-row.invariant.shape;
      globals = c.in_ok-command.ensures.globals ∙ rw (c.in_ok-command_of.ensures.globals, c.loop-row.invariant.globals) refl;
    }
