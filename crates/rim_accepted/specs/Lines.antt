-- What came of a launch, and the lines that say it. This project's choice.
use Rattle.std.specs.Prelude.{ℕ, ◌+◌, ◌<◌, Bool, is_err, List, [], ◌∷◌, ◌++◌, length, map, codes, vec_capacity, vec_len, Result, Ok, Err}
use Rattle.std.specs.Global.{Vec}
use Rattle.std.specs.List.{flat_map, list_any}
use Rattle.std.specs.Result.{result_map_both}
use Rattle.rim_desc.specs.declared.measurement.Algo.{Algo}
use Rattle.rim_desc.specs.declared.measurement.Measurement.{Measurement}
use Rattle.rim_manifest.specs.Launches.{NamedData}
use Rattle.rmi_line.specs.Ends.{rim_text}
use Rattle.rim_accepted.specs.Accepted.{accepted_of, rim_for}
use Rattle.rim_accepted.specs.AuditFaults.{audit_kind_of}
use Rattle.rim_accepted.specs.declared.audit_fault.AuditFault.{AuditFault}

-- what came of a launch, with the bytes of its measurement
abbrev pub seen : Result Measurement AuditFault → Result (List ℕ) AuditFault
seen outcome = result_map_both (λ m. m.bytes) (λ fault. fault) outcome

-- what came of each launch, where a release has these files
abbrev pub outcomes_for : List (List ℕ) → List NamedData → List (Result (List ℕ) AuditFault)
outcomes_for files ls = map (λ l. rim_for l.launch files) ls

-- what is printed of a launch after its name: its Realm Initial Measurement, or why it is refused
abbrev pub outcome_text : Algo → Result (List ℕ) AuditFault → List ℕ
outcome_text algo (Ok rim) = rim_text algo rim
outcome_text algo (Err fault) = codes " refused " ++ audit_kind_of fault

-- the line of a launch with what came of it
unfoldable pub line_with : NamedData → Result (List ℕ) AuditFault → List ℕ
line_with l outcome = (l.name ++ outcome_text l.launch.config.algo outcome) ++ codes "\n"

-- the line of a launch, where a release has these files
abbrev pub line_of : List (List ℕ) → NamedData → List ℕ
line_of files l = line_with l (rim_for l.launch files)

abbrev pub lines_of : List (List ℕ) → List NamedData → List ℕ
lines_of files ls = flat_map (line_of files) ls

-- whether some launch is refused
abbrev pub has_refused : List (List ℕ) → List NamedData → Bool
has_refused files ls = list_any (λ l. is_err (accepted_of l.launch files)) ls

-- the lines of launches with what came of each
abbrev pub line_with_outcome : NamedData → Result Measurement AuditFault → List ℕ
line_with_outcome l outcome = line_with l (seen outcome)

abbrev pub lines_with : List NamedData → List (Result Measurement AuditFault) → List ℕ
lines_with [] outcomes = []
lines_with (l ∷ ls) [] = []
lines_with (l ∷ ls) (outcome ∷ outcomes) = line_with_outcome l outcome ++ lines_with ls outcomes

-- a text has no room for these bytes after its own
abbrev pub HasNoRoom : Vec ℕ → List ℕ → Type 0
HasNoRoom text more = vec_capacity text < vec_len text + length more
