-- The first and the last line of a listing, without their newlines, and its text. This project's choice.
use Rattle.std.specs.Prelude.{ℕ, List, ◌++◌, Option, Some, None, codes, take}
use Rattle.std.specs.Fmt.{decimal}
use Rattle.std.specs.List.{flat_map}
use Rattle.hex.specs.Hex.{encode_lower}
use Rattle.rim_desc.specs.Measurement.{algo_word}
use Rattle.rim_desc.specs.Rule.{rule_word}
use Rattle.rim_desc.specs.declared.command.Command.{Command}
use Rattle.rim_desc.specs.declared.measurement.Algo.{Algo}
use Rattle.rim_desc.specs.declared.measurement.Algo.TheVariants.{Sha256, Sha512}
use Rattle.rim_desc.specs.declared.rule.RecRule.{RecRule}
use Rattle.rmi_line.specs.Line.{line_of}

-- the first line has the monitor's number of auxiliary granules, and the rule of its RECs if it has one
abbrev pub first_line : ℕ → Option RecRule → List ℕ
first_line num_aux None = codes "rim-list 1 aux " ++ decimal num_aux
first_line num_aux (Some rule) = codes "rim-list 2 aux " ++ (decimal num_aux ++ (codes " rec " ++ rule_word rule))

-- the word of an algorithm, between spaces
abbrev pub spaced_word : Algo → List ℕ
spaced_word algo = codes " " ++ (algo_word algo ++ codes " ")

-- the bytes of a measurement that are a digest
abbrev pub digest_bytes : Algo → List ℕ → List ℕ
digest_bytes Sha256 rim = take 32 rim
digest_bytes Sha512 rim = rim

-- a measurement: its algorithm, and two lower case hexadecimal digits for each byte of the digest
abbrev pub rim_text : Algo → List ℕ → List ℕ
rim_text algo rim = spaced_word algo ++ encode_lower (digest_bytes algo rim)

-- the last line has the measurement that the monitor holds
abbrev pub last_line : Algo → List ℕ → List ℕ
last_line algo rim = codes "rim" ++ rim_text algo rim

-- a line with its newline
abbrev pub with_newline : List ℕ → List ℕ
with_newline line = line ++ codes "\n"

abbrev pub command_line : Command → List ℕ
command_line command = with_newline (line_of command)

-- the text of a listing: a line for each command, between the first and the last one
abbrev pub listing_text : ℕ → Option RecRule → List Command → Algo → List ℕ → List ℕ
listing_text num_aux rule commands algo rim =
    (with_newline (first_line num_aux rule) ++ flat_map command_line commands) ++ with_newline (last_line algo rim)
