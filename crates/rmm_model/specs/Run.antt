-- Lists of commands. This project's choice: a command that is refused is passed over.
use Rattle.std.specs.Prelude.{ℕ, List, [], ◌∷◌, ◌++◌, Bool, true, ◌&&◌, Result, Ok, Err, is_ok}
use Rattle.rim_desc.specs.declared.command.Command.{Command}
use Rattle.rim_desc.specs.declared.command.Command.TheVariants.{Delegate, RealmCreate, RttCreate, InitRipas, DataCreate, DataCreateUnknown, RecCreate, Activate}
use Rattle.rim_desc.specs.Part.{Part}
use Rattle.rmm_model.specs.declared.outcome.Refused.{Refused}
use Rattle.rmm_model.specs.State.{State}
use Rattle.rmm_model.specs.Checks.{start_tables}
use Rattle.rmm_model.specs.Effects.{parts}
use Rattle.rmm_model.specs.Step.{step}

-- the state after a step; a command that is refused leaves it as it was
abbrev pub after : State → Result State Refused → State
after s (Ok next) = next
after s (Err refused) = s

-- what a step measures; a command that is refused measures nothing
abbrev pub parts_of : Result State Refused → List Part → List Part
parts_of (Ok next) shown = shown
parts_of (Err refused) shown = []

-- the state after some commands
unfoldable pub run : State → List Command → State
run s [] = s
run s (c ∷ cs) = run (after s (step s c)) cs

-- whether none of them is refused
unfoldable pub accepted : State → List Command → Bool
accepted s [] = true
accepted s (c ∷ cs) = is_ok (step s c) && accepted (after s (step s c)) cs

-- what they measure
unfoldable pub shown : State → List Command → List Part
shown s [] = []
shown s (c ∷ cs) = parts_of (step s c) (parts s c) ++ shown (after s (step s c)) cs

-- the granules that a command takes
abbrev pub taken_by : Command → List ℕ
taken_by (Delegate granule) = []
taken_by (RealmCreate rd params) = start_tables params ++ (rd ∷ [])
taken_by (RttCreate rtt ipa level) = rtt ∷ []
taken_by (InitRipas base top) = []
taken_by (DataCreate granule ipa content) = granule ∷ []
taken_by (DataCreateUnknown granule ipa) = granule ∷ []
taken_by (RecCreate rec params) = rec ∷ params.aux
taken_by Activate = []

-- the granules that some commands take, read from the commands alone
unfoldable pub taken : List Command → List ℕ
taken [] = []
taken (c ∷ cs) = taken_by c ++ taken cs
