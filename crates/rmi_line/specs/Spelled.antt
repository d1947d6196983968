-- What a line of a listing spells, if it spells something. This project's choice.
use Rattle.std.specs.Prelude.{◌≡◌, ◌≢◌, ℕ, ◌≤◌, List, Option, Some, None}
use Rattle.rim_desc.specs.declared.command.Command.{Command}
use Rattle.rim_desc.specs.declared.measurement.Algo.{Algo}
use Rattle.rim_desc.specs.declared.measurement.Measurement.{Measurement}
use Rattle.rim_desc.specs.declared.rec.TheConstants.{AUX_LIMIT}
use Rattle.rim_desc.specs.declared.rule.RecRule.{RecRule}
use Rattle.rmi_line.specs.Ends.{first_line, last_line}
use Rattle.rmi_line.specs.Line.{line_of}
use Rattle.rmi_line.specs.Typed.{Are64Bytes, IsTyped}

-- the line is that of the command, which is one of the program's type
abbrev pub Spells : List ℕ → Command → Type 0
Spells line command = (line ≡ line_of command) × IsTyped command

-- what a reader of the line answers: the command that it spells, and none exactly where it spells none
abbrev pub Reads : List ℕ → Option Command → Type 0
Reads line (Some command) = Spells line command
Reads line None = (command : Command) → ¬ (Spells line command)

-- ---- the first and the last line of a listing

-- what a reader of a first line answers: the number of auxiliary granules that it spells, which is at most 16, and the rule
abbrev pub ReadsFirst : List ℕ → Option (ℕ × Option RecRule) → Type 0
ReadsFirst line (Some (num_aux, rule)) = (line ≡ first_line num_aux rule) × (num_aux ≤ AUX_LIMIT)
ReadsFirst line None = (num_aux : ℕ) (rule : Option RecRule) → num_aux ≤ AUX_LIMIT → line ≢ first_line num_aux rule

-- the line is the last one with this measurement by this algorithm, of which it spells the digest
abbrev pub SpellsLast : List ℕ → Algo → Measurement → Type 0
SpellsLast line algo rim = (line ≡ last_line algo rim.bytes) × Are64Bytes rim.bytes

-- what a reader of a last line answers
abbrev pub ReadsLast : List ℕ → Option (Algo × Measurement) → Type 0
ReadsLast line (Some (algo, rim)) = SpellsLast line algo rim
ReadsLast line None = (algo : Algo) (rim : Measurement) → ¬ (SpellsLast line algo rim)
