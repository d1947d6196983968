-- A worked list of commands, this project's choice: a realm with IPAs of 40 bits, its two start tables at 0x800000000, 2 GiB
-- of RAM from 0x40000000 on as two entries of level 1, and a page of data that is not measured.
use Rattle.std.specs.Prelude.{List, [], ◌∷◌, ◌++◌, None}
use Rattle.rim_desc.specs.declared.numbers.TheConstants.{NO_NUMBERS}
use Rattle.rim_desc.specs.Page.{zeros}
use Rattle.rim_desc.specs.Part.{Part, Realm, Ripas, Data}
use Rattle.rim_desc.specs.Realm.{realm_page_of}
use Rattle.rim_desc.specs.declared.command.Command.{Command}
use Rattle.rim_desc.specs.declared.command.Command.TheVariants.{Delegate, RealmCreate, RttCreate, InitRipas, DataCreate, DataCreateUnknown, Activate}
use Rattle.rim_desc.specs.declared.measurement.Algo.TheVariants.{Sha256}
use Rattle.rim_desc.specs.declared.realm.RealmParams.{RealmParams}

abbrev pub worked_params : RealmParams
worked_params = record {
  flags = 0;
  s2sz = 40;
  numbers = NO_NUMBERS;
  rtt_level_start = 1;
  rtt_num_start = 2;
  algo = Sha256;
  rpv = zeros 64;
  rtt_base = 0x800000000;
}

-- up to the table of level 1's entry, with its granule
abbrev pub before_tables : List Command
before_tables = Delegate 0x800000000 ∷ Delegate 0x800001000 ∷ Delegate 0x800002000
    ∷ RealmCreate 0x800002000 worked_params ∷ InitRipas 0x40000000 0xc0000000 ∷ Delegate 0x800003000 ∷ []

abbrev pub table_of_level_2 : Command
table_of_level_2 = RttCreate 0x800003000 0x40000000 2

abbrev pub table_of_level_3 : Command
table_of_level_3 = RttCreate 0x800004000 0x40000000 3

abbrev pub with_tables : List Command
with_tables = before_tables ++ (table_of_level_2 ∷ Delegate 0x800004000 ∷ table_of_level_3 ∷ [])

abbrev pub worked_listing : List Command
worked_listing = with_tables ++ (Delegate 0x800005000 ∷ DataCreate 0x800005000 0x40000000 None ∷ Activate ∷ [])

-- the same list with two more pages, of which the monitor does not know the content: one before activation, one after it
abbrev pub listing_with_unknown : List Command
listing_with_unknown = with_tables ++ (Delegate 0x800005000 ∷ DataCreate 0x800005000 0x40000000 None
    ∷ Delegate 0x800006000 ∷ DataCreateUnknown 0x800006000 0x40001000 ∷ Activate
    ∷ Delegate 0x800007000 ∷ DataCreateUnknown 0x800007000 0x40002000 ∷ [])

-- what the first list measures, and so does this one: the realm, an entry of 1 GiB twice, and the page
abbrev pub worked_parts : List Part
worked_parts = Realm (realm_page_of worked_params) ∷ Ripas 0x40000000 0x80000000 ∷ Ripas 0x80000000 0xc0000000 ∷ Data 0x40000000 None ∷ []
