-- What the line of a launch says, in the monitor's words. This project's choice.
use Rattle.std.specs.Prelude.{◌≡◌, ℕ, List, ◌++◌, Ok, Err, codes}
use Rattle.rim_desc.specs.Part.{rim_of}
use Rattle.rim_desc.specs.declared.command.Command.{Command}
use Rattle.rmi_list.specs.Following.{IsFollowed}
use Rattle.rmi_list.specs.Measured.{page_contents, measured}
use Rattle.ipa_layout.specs.Layout.{PlacedData}
use Rattle.rim_manifest.specs.Launches.{NamedData}
use Rattle.rim_accepted.specs.Accepted.{accepted_of, commands_for}
use Rattle.rim_accepted.specs.AuditFaults.{audit_kind_of}
use Rattle.rmi_line.specs.Ends.{rim_text}
use Rattle.rim_accepted.specs.Lines.{line_of}
use Rattle.rim_accepted.specs.declared.audit_fault.AuditFault.{AuditFault}

-- A launch that is accepted has a list of commands. A monitor takes all of them, measures just the launch's measured
-- parts, gives no granule two owners, and holds the measurement that the line shows.
pub record IsMeasured (files : List (List ℕ)) (l : NamedData) (p : PlacedData) : Type 0 where
  pub commands : List Command
  pub listed : commands_for l.launch files ≡ Ok commands
  pub followed : IsFollowed l.launch.config.algo l.launch.config.num_aux l.launch.config.rec_rule commands (measured l.launch p (page_contents l.launch files p))
  pub line : line_of files l ≡ (l.name ++ rim_text l.launch.config.algo (rim_of l.launch.config.algo (measured l.launch p (page_contents l.launch files p)))) ++ codes "\n"

-- each launch that is accepted is so measured
abbrev pub AcceptedAreMeasured : Type 0
AcceptedAreMeasured = (files : List (List ℕ)) (l : NamedData) (p : PlacedData) → accepted_of l.launch files ≡ Ok p → IsMeasured files l p

-- the line of one that is refused has the word of its refusal
abbrev pub RefusedAreNamed : Type 0
RefusedAreNamed = (files : List (List ℕ)) (l : NamedData) (fault : AuditFault) → accepted_of l.launch files ≡ Err fault
    → line_of files l ≡ (l.name ++ (codes " refused " ++ audit_kind_of fault)) ++ codes "\n"
