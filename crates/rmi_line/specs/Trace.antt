-- How a trace spells a command: its line of a listing without the granules that the host chooses. Neither their addresses
-- nor the number of a REC's auxiliary granules is measured. This project's choice.
use Rattle.std.specs.Prelude.{ℕ, List, [], ◌∷◌, codes, drop}
use Rattle.std.specs.Fmt.{decimal}
use Rattle.std.specs.List.{join_with_byte}
use Rattle.rim_desc.specs.Number.{digits_of}
use Rattle.rim_desc.specs.declared.command.Command.{Command}
use Rattle.rim_desc.specs.declared.command.Command.TheVariants.{Delegate, RealmCreate, RttCreate, InitRipas, DataCreate, DataCreateUnknown, RecCreate, Activate}
use Rattle.rmi_line.specs.Line.{content_words, realm_words, start_words}

-- the words of a command, its name first; of a realm's parameters all but the address of its tables
abbrev pub traced_words : Command → List (List ℕ)
traced_words (Delegate granule) = codes "delegate" ∷ []
traced_words (RealmCreate rd params) = codes "realm_create" ∷ drop 1 (realm_words params)
traced_words (RttCreate rtt ipa level) = codes "rtt_create" ∷ digits_of ipa ∷ decimal level ∷ []
traced_words (InitRipas base top) = codes "init_ripas" ∷ digits_of base ∷ digits_of top ∷ []
traced_words (DataCreate granule ipa content) = codes "data_create" ∷ digits_of ipa ∷ content_words content
traced_words (DataCreateUnknown granule ipa) = codes "data_unknown" ∷ digits_of ipa ∷ []
traced_words (RecCreate rec params) = codes "rec_create" ∷ start_words params
traced_words Activate = codes "activate" ∷ []

-- the words, parted by one space, which is byte 32
unfoldable pub traced_line : Command → List ℕ
traced_line command = join_with_byte 32 (traced_words command)
