-- Whether a listing is what it says. This project's choice; that a monitor takes a command or refuses it is DEN0137's.
use Rattle.std.specs.Prelude.{◌≡◌, ℕ, ◌+◌, Bool, false, ◌&&◌, ◌==◌, List, [], ◌∷◌, Option, Some, None, Result, Ok, Err, if◌then◌else◌}
use Rattle.std.specs.List.{slice_split}
use Rattle.std.specs.Str.{bytes_eq}
use Rattle.rim_desc.specs.Measurement.{algo_word}
use Rattle.rim_desc.specs.declared.command.Command.{Command}
use Rattle.rim_desc.specs.declared.measurement.Algo.{Algo}
use Rattle.rim_desc.specs.declared.measurement.Measurement.{Measurement}
use Rattle.rim_desc.specs.declared.realm.RealmParams.{RealmParams}
use Rattle.rim_desc.specs.declared.rule.RecRule.{RecRule}
use Rattle.rmm_model.specs.State.{State, empty_state}
use Rattle.rmm_model.specs.Step.{step}
use Rattle.rmm_model.specs.declared.outcome.Refused.{Refused}
use Rattle.rmi_line.specs.Ends.{digest_bytes}
use Rattle.rmi_line.specs.Spelled.{Reads, ReadsFirst, ReadsLast}
use Rattle.rim_replay.specs.declared.fault.ReplayFault.{ReplayFault}
use Rattle.rim_replay.specs.declared.fault.ReplayFault.TheVariants as fault

-- yes, or the fault of the first line that has one
abbrev pub Answer : Type 0
Answer = Result (Unit {0}) ReplayFault

-- whether a realm has this measurement, by this algorithm
abbrev pub is_held : Option RealmParams → Option (List ℕ) → Algo → Measurement → Bool
is_held (Some p) (Some held) algo rim = bytes_eq (algo_word p.algo) (algo_word algo) && bytes_eq (digest_bytes algo held) (digest_bytes algo rim.bytes)
is_held _ _ algo rim = false

-- a right last line ends the text: what is left after its newline, before line n, is nothing
abbrev pub ended : ℕ → List (List ℕ) → Answer
ended n ([] ∷ []) = Ok tt
ended n rest = Err (fault.Line n)

-- line n is a last line, right or wrong, or no line of a listing
abbrev pub last_answer : ℕ → State → List (List ℕ) → Option (Algo × Measurement) → Answer
last_answer n s rest (Some last) = if is_held s.params s.rim last.0 last.1 then ended (n + 1) rest else Err fault.WrongRim
last_answer n s rest None = Err (fault.Line n)

-- the command of line n is taken, and the lines after it go on from there; or it is refused
abbrev pub Takes : ℕ → Result State Refused → (State → Type 0) → Answer → Type 0
Takes n (Ok next) GoesOn answer = GoesOn next
Takes n (Err refused) GoesOn answer = answer ≡ Err (fault.Refused n refused)

-- what line n comes to, with the command that it spells, if it spells one
abbrev pub Comes : ℕ → State → List ℕ → List (List ℕ) → (State → Type 0) → Answer → Option Command → Type 0
Comes n s line rest GoesOn answer (Some c) = Takes n (step s c) GoesOn answer
Comes n s line rest GoesOn answer None = (last : Option (Algo × Measurement)) × ReadsLast line last × (answer ≡ last_answer n s rest last)

-- What the lines from line n on come to, where a monitor is in this state. The last piece of a text has no newline, so it is no line.
abbrev pub Replays : ℕ → State → List (List ℕ) → Answer → Type 0
Replays n s [] answer = answer ≡ Err (fault.Line n)
Replays n s (line ∷ []) answer = answer ≡ Err (fault.Line n)
Replays n s (line ∷ next ∷ rest) answer =
    (read : Option Command) × Reads line read × Comes n s line (next ∷ rest) (λ t. Replays (n + 1) t (next ∷ rest) answer) answer read

-- the first line has the monitor's number of auxiliary granules, and the rule of its RECs if it has one
abbrev pub Opens : List (List ℕ) → Answer → Option (ℕ × Option RecRule) → Type 0
Opens rest answer (Some (num_aux, rule)) = Replays 2 (empty_state num_aux rule) rest answer
Opens rest answer None = answer ≡ Err (fault.Line 1)

abbrev pub Begins : List (List ℕ) → Answer → Type 0
Begins (line ∷ next ∷ rest) answer = (first : Option (ℕ × Option RecRule)) × ReadsFirst line first × Opens (next ∷ rest) answer first
Begins pieces answer = answer ≡ Err (fault.Line 1)

-- what a text comes to: its lines are taken in their order, and the first with a fault decides
abbrev pub ReplayAnswer : List ℕ → Answer → Type 0
ReplayAnswer text answer = Begins (slice_split (λ b. b == 10) text) answer
