-- Which commands may need memory. This project's choice.
use Rattle.std.specs.Prelude.{Bool, true, false}
use Rattle.rim_desc.specs.declared.command.Command.{Command}
use Rattle.rim_desc.specs.declared.command.Command.TheVariants.{Delegate, RealmCreate, RttCreate, InitRipas, DataCreate, DataCreateUnknown, RecCreate, Activate}

-- whether a command adds a granule, a table, a range of RAM or a page with data to the present ones
abbrev pub adds_something : Command → Bool
adds_something (Delegate granule) = true
adds_something (RealmCreate rd params) = false
adds_something (RttCreate rtt ipa level) = true
adds_something (InitRipas base top) = true
adds_something (DataCreate granule ipa content) = true
adds_something (DataCreateUnknown granule ipa) = true
adds_something (RecCreate rec params) = false
adds_something Activate = false
