-- Copies of monitors within audits. This project's choice.
use Rattle.std.specs.Prelude.{◌≡◌, ℕ, ◌≤◌, Bool, true, List, length, take, Ok, Some}
use Rattle.std.specs.List.{All, slice_get}
use Rattle.rim_desc.specs.declared.source.Source.TheVariants.{File}
use Rattle.rmm_model.specs.Run.{run}
use Rattle.rmm_model.specs.State.{State, empty_state}
use Rattle.list_model.specs.Entries.{Entry, commands_of}
use Rattle.ipa_layout.specs.Layout.{IsPlaced, PlacedData}
use Rattle.ipa_layout.specs.declared.placed.PlacedItem.{PlacedItem}
use Rattle.rim_launch.specs.LaunchData.{LaunchData}
use Rattle.rmi_list.specs.Listed.{listed}
use Rattle.rmi_list.specs.Measured.{page_contents}
use Rattle.rim_audit.specs.inside.Commands.{commands_in, state_after}
use Rattle.rim_audit.specs.declared.commands.LaunchCommands.{LaunchCommands}
use Rattle.rim_audit.specs.declared.copies.LaunchCopies.{LaunchCopies}
use Rattle.rim_audit.specs.declared.copies.MonitorCopy.{MonitorCopy}
use Rattle.rim_audit.specs.declared.kept.Kept.{Kept}

-- the state after some first commands of a launch, which has this place and this list
abbrev pub state_of : LaunchData → List (List ℕ) → PlacedData → List Entry → ℕ → State
state_of l files p entries count = run (empty_state l.config.num_aux l.config.rec_rule) (take count (commands_of (page_contents l files p) entries))

-- a copy was given some first commands of a launch
abbrev pub IsCopyIn : LaunchCommands → MonitorCopy → Type 0
IsCopyIn c k = k.monitor ≡ state_after c k.count

-- a launch has its place and its list, and each copy was given some of its first commands
pub record IsKept (files : List (List ℕ)) (k : LaunchCopies) : Type 0 where
  pub placed : PlacedData
  pub is_placed : IsPlaced k.launch.now files placed
  pub items : k.items.items ≡ placed.items
  pub is_listed : listed k.launch.now placed ≡ Ok k.plan
  pub copies : All (λ m. m.monitor ≡ state_of k.launch.now files placed k.plan m.count) k.copies.items

-- what an audit keeps is of these files
pub record AreKept (files : List (List ℕ)) (k : Kept) : Type 0 where
  pub known : k.beside.known ≡ files
  pub launches : All (IsKept files) k.launches.items

-- a launch can go on from a copy
abbrev pub Serves : LaunchCommands → MonitorCopy → Type 0
Serves c k = (k.count ≤ length (commands_in c)) × (k.monitor ≡ state_after c k.count)

-- the same where the copy was given no more commands than these
abbrev pub ServesWithin : LaunchCommands → ℕ → MonitorCopy → Type 0
ServesWithin c shared k = k.count ≤ shared → Serves c k

-- two launches have an item of this number each, from the same file and with the same lead
pub record IsSameItem (items others : List PlacedItem) (number : ℕ) : Type 0 where
  pub item : PlacedItem
  pub at : slice_get items number ≡ Some item
  pub other : PlacedItem
  pub at_other : slice_get others number ≡ Some other
  pub lead : item.lead ≡ other.lead
  pub file : ℕ
  pub source : item.source ≡ Some (File file)
  pub source_other : other.source ≡ Some (File file)

-- just such items are marked
abbrev pub AreMarked : List PlacedItem → List PlacedItem → List Bool → Type 0
AreMarked items others marks = (number : ℕ) → slice_get marks number ≡ Some true → IsSameItem items others number
