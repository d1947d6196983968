-- The listing of a launch: the commands that build its realm, a line each, and the measurement that they lead to. This
-- project's choice; the commands are DEN0137's.
use Rattle.std.specs.Prelude.{ℕ, List, Result, Ok, Err}
use Rattle.refusal.specs.Answer.{◌>>=◌}
use Rattle.rim_desc.specs.declared.command.Command.{Command}
use Rattle.rim_launch.specs.LaunchData.{LaunchData}
use Rattle.rim_manifest.specs.Launches.{NamedData}
use Rattle.rmi_line.specs.Ends.{listing_text}
use Rattle.rim_accepted.specs.Accepted.{commands_for, rim_after}
use Rattle.rim_accepted.specs.Lines.{line_with}
use Rattle.rim_accepted.specs.declared.audit_fault.AuditFault.{AuditFault}

-- the lines of a launch that has these commands
abbrev pub listing_with : LaunchData → List Command → List ℕ
listing_with l commands = listing_text l.config.num_aux l.config.rec_rule commands l.config.algo (rim_after l commands)

-- the whole listing, or why the launch is refused
unfoldable pub listing_of : LaunchData → List (List ℕ) → Result (List ℕ) AuditFault
listing_of l files = commands_for l files >>= λ commands. Ok (listing_with l commands)

-- a text about a launch, or the launch's line of a report where it is refused
abbrev pub text_or_line : NamedData → Result (List ℕ) AuditFault → List ℕ
text_or_line l (Ok text) = text
text_or_line l (Err fault) = line_with l (Err fault)
