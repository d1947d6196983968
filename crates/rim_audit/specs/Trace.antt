-- The trace of a launch: its measurement after each command that creates or extends it. Two traces can be compared line by line,
-- and the first difference is at the first step at which their launches part. This project's choice; what a command measures is
-- DEN0137's, "Realm Initial Measurement".
use Rattle.std.specs.Prelude.{◌≡◌, ℕ, ◌+◌, List, [], ◌∷◌, ◌++◌, take, codes, Option, Some, None, Result, Ok, if◌then◌else◌}
use Rattle.std.specs.List.{slice_get}
use Rattle.hex.specs.Hex.{encode_lower}
use Rattle.refusal.specs.Answer.{◌>>=◌}
use Rattle.rim_desc.specs.Part.{Part, rim_of}
use Rattle.rim_desc.specs.declared.command.Command.{Command}
use Rattle.rim_desc.specs.declared.command.Command.TheVariants.{Delegate, RealmCreate, RttCreate, InitRipas, DataCreate, DataCreateUnknown, RecCreate, Activate}
use Rattle.rim_desc.specs.declared.measurement.Algo.{Algo}
use Rattle.rim_desc.specs.Rule.{extends}
use Rattle.rmm_model.specs.Effects.{is_runnable, parts}
use Rattle.rmm_model.specs.Run.{after, parts_of, run}
use Rattle.rmm_model.specs.State.{State, empty_state}
use Rattle.rmm_model.specs.Step.{step}
use Rattle.rim_launch.specs.LaunchData.{LaunchData}
use Rattle.rmi_line.specs.Ends.{digest_bytes, with_newline}
use Rattle.rmi_line.specs.Trace.{traced_line}
use Rattle.rim_accepted.specs.Accepted.{commands_for, rim_after}
use Rattle.rim_accepted.specs.declared.audit_fault.AuditFault.{AuditFault}

-- a measurement, two lower case hexadecimal digits for each byte of the digest, and the command that led to it
abbrev pub rim_line : Algo → List ℕ → Command → List ℕ
rim_line algo rim c = (encode_lower (digest_bytes algo rim) ++ codes " ") ++ with_newline (traced_line c)

-- the line of a command that measures its own parts after those before; one that measures none has no line
abbrev pub trace_line : Algo → List Part → List Part → Command → List ℕ
trace_line algo before [] c = []
trace_line algo before own c = rim_line algo (rim_of algo (before ++ own)) c

-- the lines of commands that a monitor is given in this state, after it has measured the parts before
unfoldable pub trace_lines : Algo → List Part → State → List Command → List ℕ
trace_lines algo before s [] = []
trace_lines algo before s (c ∷ cs) =
    let own = parts_of (step s c) (parts s c) in
    trace_line algo before own c ++ trace_lines algo (before ++ own) (after s (step s c)) cs

-- the lines of a launch that has these commands
abbrev pub trace_with : LaunchData → List Command → List ℕ
trace_with l commands = trace_lines l.config.algo [] (empty_state l.config.num_aux l.config.rec_rule) commands

-- the whole trace, or why the launch is refused
unfoldable pub trace_of : LaunchData → List (List ℕ) → Result (List ℕ) AuditFault
trace_of l files = commands_for l files >>= λ commands. Ok (trace_with l commands)

-- ---- what its lines show

-- the measurement that a monitor holds after a command, where the command creates or extends it
abbrev pub rim_held : State → Command → Option (List ℕ)
rim_held s (Delegate granule) = None
rim_held s (RealmCreate rd params) = s.rim
rim_held s (RttCreate rtt ipa level) = None
rim_held s (InitRipas base top) = s.rim
rim_held s (DataCreate granule ipa content) = s.rim
rim_held s (DataCreateUnknown granule ipa) = None
rim_held s (RecCreate rec params) = if extends s.rule (is_runnable params.flags) then s.rim else None
rim_held s Activate = None

-- the line with it, if there is one
abbrev pub line_if_held : Algo → Option (List ℕ) → Command → List ℕ
line_if_held algo (Some rim) c = rim_line algo rim c
line_if_held algo None c = []

-- with each command of a launch that is accepted its trace grows by just the line that shows what a monitor holds then
abbrev pub TracesShowWhatIsHeld : Type 0
TracesShowWhatIsHeld = (files : List (List ℕ)) (l : LaunchData) (commands : List Command) (i : ℕ) (c : Command)
    → commands_for l files ≡ Ok commands → slice_get commands i ≡ Some c
    → trace_with l (take (i + 1) commands)
    ≡ trace_with l (take i commands) ++ line_if_held l.config.algo (rim_held (run (empty_state l.config.num_aux l.config.rec_rule) (take (i + 1) commands)) c) c

-- The last line is that of the last command that is measured, as the others have no line, and it has the launch's Realm
-- Initial Measurement.
pub record EndsWithTheRim (l : LaunchData) (commands : List Command) : Type 0 where
  pub before : List Command
  pub last : Command
  pub others : List Command
  pub split : commands ≡ before ++ last ∷ others
  pub trace : trace_with l commands ≡ trace_with l before ++ rim_line l.config.algo (rim_after l commands) last

-- the trace of each launch that is accepted ends so
abbrev pub TracesEndWithTheRim : Type 0
TracesEndWithTheRim = (files : List (List ℕ)) (l : LaunchData) (commands : List Command) → commands_for l files ≡ Ok commands → EndsWithTheRim l commands
