-- What each command does where no check refuses it. DEN0137, the RMI commands' success conditions
-- and "Realm Initial Measurement".
use Rattle.std.specs.Prelude.{ℕ, ◌+◌, ◌-◌, ◌/◌, ◌%◌, ◌==◌, Bool, List, [], ◌∷◌, map, Option, Some, option_map, if◌then◌else◌}
use Rattle.rim_desc.specs.declared.command.Command.{Command}
use Rattle.rim_desc.specs.declared.command.Command.TheVariants.{Delegate, RealmCreate, RttCreate, InitRipas, DataCreate, DataCreateUnknown, RecCreate, Activate}
use Rattle.rim_desc.specs.Measurement.{measurement_of}
use Rattle.rim_desc.specs.Part.{Part, Realm, Ripas, Data, Rec, extended_by}
use Rattle.rim_desc.specs.Realm.{realm_page_of}
use Rattle.rim_desc.specs.Rec.{RecData, rec_page_of}
use Rattle.rim_desc.specs.Rule.{extends}
use Rattle.rim_desc.specs.declared.measurement.Algo.{Algo}
use Rattle.rim_desc.specs.declared.rule.RecRule.{RecRule}
use Rattle.rmm_model.specs.declared.outcome.Kind.TheVariants as kind
use Rattle.rmm_model.specs.declared.outcome.Phase.TheVariants.{New, Active}
use Rattle.rmm_model.specs.Blocks.{size, stretches}
use Rattle.rmm_model.specs.Start.{protected_end}
use Rattle.rmm_model.specs.Space.{after_page, after_run, after_table, empty_space}
use Rattle.rmm_model.specs.Owners.{give, give_all}
use Rattle.rmm_model.specs.State.{State, algo_of, measured_so_far}
use Rattle.rmm_model.specs.Checks.{start_tables, walk_of}

-- the part of each stretch that becomes RAM: one for each entry that changes (this project's choice)
abbrev pub ripas_parts : List (ℕ × ℕ) → List Part
ripas_parts ranges = map (λ r. Ripas r.0 r.1) ranges

-- whether a REC is runnable: bit 0 of its flags. DEN0137, RmiRecCreateFlags
abbrev pub is_runnable : ℕ → Bool
is_runnable flags = flags % 2 == 1

-- the part of a REC, where it extends the measurement
abbrev pub rec_parts : Option RecRule → Algo → RecData → List Part
rec_parts rule algo r = if extends rule (is_runnable r.flags) then Rec (measurement_of algo (rec_page_of r)) ∷ [] else []

-- what a command measures
abbrev pub parts : State → Command → List Part
parts s (Delegate granule) = []
parts s (RealmCreate rd params) = Realm (realm_page_of params) ∷ []
parts s (RttCreate rtt ipa level) = []
parts s (InitRipas base top) =
    let entry = size (walk_of s.space base) in ripas_parts (stretches ((top - base) / entry) entry base)
parts s (DataCreate granule ipa content) = Data ipa (option_map (λ m. m.bytes) content) ∷ []
parts s (DataCreateUnknown granule ipa) = []
parts s (RecCreate rec params) = rec_parts s.rule (algo_of s.params) params
parts s Activate = []

-- the page has data, in this granule
abbrev pub with_page : State → ℕ → ℕ → State
with_page s granule ipa = record s { owners = give s.owners granule kind.DataPage; space = after_page s.space ipa }

-- what else it changes: granules get the kind of the command, and the realm goes on
abbrev pub changed : State → Command → State
changed s (Delegate granule) = record s { owners = give s.owners granule kind.Delegated }
changed s (RealmCreate rd params) = record s {
  phase = New;
  params = Some params;
  owners = give_all (give s.owners rd kind.Rd) (start_tables params) kind.Rtt;
  space = empty_space params.rtt_level_start (protected_end params.s2sz);
}
changed s (RttCreate rtt ipa level) = record s { owners = give s.owners rtt kind.Rtt; space = after_table s.space level ipa }
changed s (InitRipas base top) = record s { space = after_run s.space base top }
changed s (DataCreate granule ipa content) = with_page s granule ipa
changed s (DataCreateUnknown granule ipa) = with_page s granule ipa
changed s (RecCreate rec params) = record s { owners = give_all (give s.owners rec kind.Rec) params.aux kind.RecAux; num_recs = s.num_recs + 1 }
changed s Activate = record s { phase = Active }

-- the state with its measurement set or extended by some parts; without parts as it was
abbrev pub measured : State → List Part → State
measured s [] = s
measured s (part ∷ parts) = record s { rim = Some (extended_by (algo_of s.params) (measured_so_far s.rim) (part ∷ parts)) }
