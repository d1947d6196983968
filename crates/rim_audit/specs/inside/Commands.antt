-- The commands of a launch one by one, and where a monitor is between them. This project's choice.
use Rattle.std.specs.Prelude.{◌≡◌, ℕ, ◌<◌, List, Some, take}
use Rattle.std.specs.List.{slice_get}
use Rattle.rim_desc.specs.declared.command.Command.{Command}
use Rattle.rim_desc.specs.declared.source.Source.{Source}
use Rattle.rmm_model.specs.Run.{run}
use Rattle.rmm_model.specs.State.{State, empty_state}
use Rattle.list_model.specs.Entries.{commands_of}
use Rattle.ipa_layout.specs.Layout.{PlacedData}
use Rattle.ipa_layout.specs.declared.placed.PlacedItem.{PlacedItem}
use Rattle.ipa_layout.specs.Files.{bytes_of_files}
use Rattle.rmi_list.specs.Measured.{page_contents}
use Rattle.rim_audit.specs.declared.commands.LaunchCommands.{LaunchCommands}

-- the commands, with the measurement of each measured page
abbrev pub commands_in : LaunchCommands → List Command
commands_in c = commands_of (page_contents c.accepted.named.now.launch (bytes_of_files c.accepted.files.now) c.accepted.placed) c.plan

-- where a monitor is after the first of them
abbrev pub state_after : LaunchCommands → ℕ → State
state_after c count = run (empty_state c.accepted.named.now.launch.config.num_aux c.accepted.named.now.launch.config.rec_rule) (take count (commands_in c))

-- the launch has an item of this number, which has a source, and the item has a page of this number
pub record HasPage (p : PlacedData) (number page : ℕ) : Type 0 where
  pub item : PlacedItem
  pub at : slice_get p.items number ≡ Some item
  pub low : page < item.pages
  pub source : Source
  pub from : item.source ≡ Some source
