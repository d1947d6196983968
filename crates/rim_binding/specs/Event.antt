-- The events that a realm's measurement records, in a verifier's terms. DEN0137, "Realm Initial Measurement": the
-- parameters come first, then the events that extend the measurement, in order.
use Rattle.std.specs.Prelude.{◌≡◌, ◌⊎◌, ℕ, List, [], ◌∷◌, map, Option, Some, option_map, length}
use Rattle.std.specs.List.{All}
use Rattle.rim_desc.specs.Measurement.{measurement_of}
use Rattle.rim_desc.specs.Numbers.{in_order}
use Rattle.rim_desc.specs.Page.{zeros}
use Rattle.rim_desc.specs.Part.{Data, Part, Realm, Rec, Ripas}
use Rattle.rim_desc.specs.Realm.{realm_page_of}
use Rattle.rim_desc.specs.Rec.{RecData, rec_page_of}
use Rattle.rim_desc.specs.declared.measurement.Algo.{Algo}
use Rattle.rim_desc.specs.declared.numbers.RealmNumbers.{RealmNumbers}
use Rattle.rim_desc.specs.declared.realm.RealmParams.{RealmParams}
use Rattle.rmi_line.specs.Typed.{IsByte, IsWord}
use Rattle.rim_binding.specs.Chain.{IsChained}

-- the measured parameters of a realm
pub record MeasuredParams : Type 0 where
  pub flags : ℕ
  pub s2sz : ℕ
  -- sve_vl, num_bps, num_wps and pmu_num_ctrs
  pub numbers : RealmNumbers
  pub algo : Algo

-- the measured parameters of a REC
pub record MeasuredRec : Type 0 where
  pub flags : ℕ
  pub pc : ℕ
  -- x0 to x7
  pub x : List ℕ

pub data Event : Type 0 where
  -- the realm was created with these parameters
  Created : MeasuredParams → Event
  -- the range from a first address to the first address past it became RAM
  BecameRam : ℕ → ℕ → Event
  -- a page was added at an IPA, with its bytes if they are measured
  PageAdded : ℕ → Option (List ℕ) → Event
  -- a REC was created that extends the measurement
  RecCreated : MeasuredRec → Event

abbrev pub measured_params : RealmParams → MeasuredParams
measured_params p = record { flags = p.flags; s2sz = p.s2sz; numbers = p.numbers; algo = p.algo }

abbrev pub measured_rec : RecData → MeasuredRec
measured_rec r = record { flags = r.flags; pc = r.pc; x = r.gprs }

-- the measured page of a realm's parameters, in which nothing depends on the parameters that are not measured
abbrev pub params_page : MeasuredParams → List ℕ
params_page m = realm_page_of (record {
  flags = m.flags;
  s2sz = m.s2sz;
  numbers = m.numbers;
  rtt_level_start = 0;
  rtt_num_start = 0;
  algo = m.algo;
  rpv = [];
  rtt_base = 0;
})

-- the measured page of a REC's parameters
abbrev pub start_page : MeasuredRec → List ℕ
start_page m = rec_page_of (record { flags = m.flags; mpidr = 0; pc = m.pc; gprs = m.x; aux = [] })

-- the part that an event adds to the measurement
abbrev pub part_of : Algo → Event → Part
part_of algo (Created m) = Realm (params_page m)
part_of algo (BecameRam base top) = Ripas base top
part_of algo (PageAdded ipa bytes) = Data ipa (option_map (measurement_of algo) bytes)
part_of algo (RecCreated m) = Rec (measurement_of algo (start_page m))

-- ---- widths

-- parameters that fit in their fields of the realm's page
pub record FitsParams (m : MeasuredParams) : Type 0 where
  pub flags : IsWord m.flags
  pub s2sz : IsByte m.s2sz
  pub numbers : All IsByte (in_order m.numbers)

pub record FitsRec (m : MeasuredRec) : Type 0 where
  pub flags : IsWord m.flags
  pub pc : IsWord m.pc
  pub x : (length m.x ≡ 8) × All IsWord m.x

-- ---- messages

-- m is the page whose measurement an event's part holds
abbrev pub IsContent : Event → List ℕ → Type 0
IsContent (PageAdded ipa (Some bytes)) m = m ≡ bytes
IsContent (RecCreated rec) m = m ≡ start_page rec
IsContent _ m = ⊥

abbrev pub IsContentOf : List Event → List ℕ → Type 0
IsContentOf [] m = ⊥
IsContentOf (event ∷ events) m = IsContent event m ⊎ IsContentOf events m

-- m is one of the messages that a monitor hashes for these events: a page, or a message that extends the measurement
abbrev pub IsHashed : Algo → List Event → List ℕ → Type 0
IsHashed algo events m = IsContentOf events m ⊎ IsChained algo (zeros 64) (map (part_of algo) events) m
