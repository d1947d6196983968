-- How a listing spells a command of the monitor: a line of words, without its newline. This project's choice;
-- the commands and their parts are those of DEN0137. An address, or another number of 64 bits, is 16 lower
-- case hexadecimal digits, the highest first; a number of 8 bits is decimal, without leading zeros; 64 bytes
-- are 128 lower case hexadecimal digits, two for each byte in their order, its high four bits first.
use Rattle.std.specs.Prelude.{ℕ, List, [], ◌∷◌, ◌++◌, Option, Some, None, codes, length, map}
use Rattle.std.specs.Fmt.{decimal}
use Rattle.std.specs.List.{join_with_byte}
use Rattle.hex.specs.Hex.{encode_lower}
use Rattle.rim_desc.specs.Number.{digits_of}
use Rattle.rim_desc.specs.Numbers.{in_order}
use Rattle.rim_desc.specs.Rec.{RecData}
use Rattle.rim_desc.specs.declared.command.Command.{Command}
use Rattle.rim_desc.specs.declared.command.Command.TheVariants.{Delegate, RealmCreate, RttCreate, InitRipas, DataCreate, DataCreateUnknown, RecCreate, Activate}
use Rattle.rim_desc.specs.declared.measurement.Measurement.{Measurement}
use Rattle.rim_desc.specs.declared.realm.RealmParams.{RealmParams}
use Rattle.rim_desc.specs.Measurement.{algo_word}

-- the parameters of a realm
abbrev pub realm_words : RealmParams → List (List ℕ)
realm_words p = digits_of p.rtt_base ∷ decimal p.rtt_level_start ∷ decimal p.rtt_num_start
    ∷ decimal p.s2sz ∷ algo_word p.algo ∷ digits_of p.flags
    ∷ map decimal (in_order p.numbers) ++ (encode_lower p.rpv ∷ [])

-- the measurement of a page's bytes, or that they are not measured
abbrev pub content_words : Option Measurement → List (List ℕ)
content_words (Some m) = codes "measured" ∷ encode_lower m.bytes ∷ []
content_words None = codes "unmeasured" ∷ []

-- what a REC starts with: its flags, its MPIDR, its program counter, and x0 to x7
abbrev pub start_words : RecData → List (List ℕ)
start_words r = digits_of r.flags ∷ digits_of r.mpidr ∷ digits_of r.pc ∷ map digits_of r.gprs

-- the parameters of a REC: what it starts with, and last the number of its auxiliary granules and their addresses
abbrev pub rec_words : RecData → List (List ℕ)
rec_words r = start_words r ++ decimal (length r.aux) ∷ map digits_of r.aux

-- the words of a command, its name first
abbrev pub words_of : Command → List (List ℕ)
words_of (Delegate granule) = codes "delegate" ∷ digits_of granule ∷ []
words_of (RealmCreate rd params) = codes "realm_create" ∷ digits_of rd ∷ realm_words params
words_of (RttCreate rtt ipa level) = codes "rtt_create" ∷ digits_of rtt ∷ digits_of ipa ∷ decimal level ∷ []
words_of (InitRipas base top) = codes "init_ripas" ∷ digits_of base ∷ digits_of top ∷ []
words_of (DataCreate granule ipa content) = codes "data_create" ∷ digits_of granule ∷ digits_of ipa ∷ content_words content
words_of (DataCreateUnknown granule ipa) = codes "data_unknown" ∷ digits_of granule ∷ digits_of ipa ∷ []
words_of (RecCreate rec params) = codes "rec_create" ∷ digits_of rec ∷ rec_words params
words_of Activate = codes "activate" ∷ []

-- the line: the words, parted by one space, which is byte 32
unfoldable pub line_of : Command → List ℕ
line_of command = join_with_byte 32 (words_of command)
