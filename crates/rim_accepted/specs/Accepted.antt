-- What a launch of a release comes to: its place and the commands that build its realm, or why it is refused. The order
-- of refusals is this project's choice; what a monitor measures is DEN0137's, "Realm Initial Measurement".
use Rattle.std.specs.Prelude.{ℕ, List, [], map, Result, Ok, unwrap_or}
use Rattle.std.specs.Result.{result_map_both}
use Rattle.refusal.specs.Answer.{◌>>=◌}
use Rattle.rim_desc.specs.declared.command.Command.{Command}
use Rattle.rmm_model.specs.Run.{run}
use Rattle.rmm_model.specs.State.{empty_state}
use Rattle.list_model.specs.Entries.{Entry, commands_of}
use Rattle.rim_launch.specs.LaunchData.{LaunchData}
use Rattle.ipa_layout.specs.Layout.{PlacedData, places}
use Rattle.ipa_layout.specs.declared.fault.LayoutFault.{LayoutFault}
use Rattle.ipa_layout.specs.declared.fault.LayoutFault.TheVariants as layout
use Rattle.rim_manifest.specs.Launches.{NamedData}
use Rattle.rmi_list.specs.Listed.{listed}
use Rattle.rmi_list.specs.Measured.{page_contents}
use Rattle.rmi_list.specs.declared.fault.ListFault.{ListFault}
use Rattle.rmi_list.specs.declared.fault.ListFault.TheVariants as list
use Rattle.rim_accepted.specs.declared.audit_fault.AuditFault.{AuditFault}
use Rattle.rim_accepted.specs.declared.audit_fault.AuditFault.TheVariants as fault

-- a refusal of the layout and one of the list, as a release answers them: want of memory is its own
abbrev pub layout_fault : LayoutFault → AuditFault
layout_fault layout.NoMemory = fault.NoMemory
layout_fault e = fault.Layout e

abbrev pub list_fault : ListFault → AuditFault
list_fault list.NoMemory = fault.NoMemory
list_fault e = fault.List e

-- where the launch's items are, or why they cannot be laid out
abbrev pub placed_of : LaunchData → List (List ℕ) → Result PlacedData AuditFault
placed_of l files = result_map_both (λ p. p) layout_fault (places l files)

-- its list, with the contents of pages open, or why it has none
abbrev pub entries_of : LaunchData → PlacedData → Result (List Entry) AuditFault
entries_of l p = result_map_both (λ entries. entries) list_fault (listed l p)

-- the place of a launch that is accepted: neither its layout nor its list is refused
unfoldable pub accepted_of : LaunchData → List (List ℕ) → Result PlacedData AuditFault
accepted_of l files = placed_of l files >>= λ p. entries_of l p >>= λ entries. Ok p

-- the same of each launch
abbrev pub places_of : List (List ℕ) → List NamedData → List (Result PlacedData AuditFault)
places_of files ls = map (λ l. accepted_of l.launch files) ls

-- the commands that build the realm of a launch, with the measurement of each of its pages
unfoldable pub commands_for : LaunchData → List (List ℕ) → Result (List Command) AuditFault
commands_for l files = placed_of l files >>= λ p. entries_of l p >>= λ entries. Ok (commands_of (page_contents l files p) entries)

-- the Realm Initial Measurement that a monitor holds after a launch's commands
abbrev pub rim_after : LaunchData → List Command → List ℕ
rim_after l commands = unwrap_or (run (empty_state l.config.num_aux l.config.rec_rule) commands).rim []

-- the Realm Initial Measurement of a launch, or why it is refused
unfoldable pub rim_for : LaunchData → List (List ℕ) → Result (List ℕ) AuditFault
rim_for l files = commands_for l files >>= λ commands. Ok (rim_after l commands)
