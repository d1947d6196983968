use Rattle.std.proofs.Common.{◌≡◌, ◌∙◌, ◌≤◌, List, ap, ap₂, length, sym, take_all}
use Rattle.std.specs.Prelude.{Some}
use Rattle.std.specs.List.{slice_get}
use Rattle.std.proofs.lemmas.List.{length-map}
use Rattle.std.proofs.lemmas.Option.{slice_get-map}
use Rattle.rim_desc.specs.declared.command.Command.{Command}
use Rattle.list_model.specs.Entries.{command_of, commands_of}
use Rattle.map_rows.specs.Granules.{granules_of, plus}
use Rattle.map_rows.proofs.GranulesInTurn.{any_contents, granules-next, same-granules}
use Rattle.map_rows.proofs.granules.counted.Goals as goal

pub loop-index-preserved : goal.loop-index-preserved
loop-index-preserved c =
    let commands : List Command = commands_of any_contents c.args.plan.now in
    let at : slice_get commands c.loop-index.index ≡ Some c.command-command.result =
    slice_get-map (command_of any_contents) c.args.plan.now c.loop-index.index ∙ c.command-command.ensures in
    c.in_ok-found.ensures ∙ ap₂ plus c.loop-index.invariant c.of.ensures ∙ granules-next commands c.loop-index.index c.command-command.result at

pub returns : goal.returns
returns c = λ contents.
    let commands : List Command = commands_of any_contents c.args.plan.now in
    let few : length commands ≤ c.loop-index.index = rw (length-map c.args.plan.now (command_of any_contents), sym c.len-index-end.ensures)
    c.loop-index-test.false in
    c.loop-index.invariant ∙ ap granules_of (take_all c.loop-index.index commands few) ∙ same-granules any_contents contents c.args.plan.now
