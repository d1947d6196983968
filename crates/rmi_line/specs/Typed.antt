-- What the type of a command says: each number fits in its bits, and each list has as many parts as its place
-- allows. The commands and their parts are those of DEN0137; that a command is kept so is this project's choice.
use Rattle.std.specs.Prelude.{◌≡◌, ℕ, ◌^◌, ◌<◌, ◌≤◌, List, Option, Some, None, length, ⊤}
use Rattle.std.specs.List.{All}
use Rattle.rim_desc.specs.declared.command.Command.{Command}
use Rattle.rim_desc.specs.declared.command.Command.TheVariants.{Delegate, RealmCreate, RttCreate, InitRipas, DataCreate, DataCreateUnknown, RecCreate, Activate}
use Rattle.rim_desc.specs.declared.measurement.Measurement.{Measurement}
use Rattle.rim_desc.specs.declared.realm.RealmParams.{RealmParams}
use Rattle.rim_desc.specs.declared.rec.TheConstants.{AUX_LIMIT}
use Rattle.rim_desc.specs.Numbers.{in_order}
use Rattle.rim_desc.specs.Rec.{RecData}

-- a number of 64 bits
abbrev pub IsWord : ℕ → Type 0
IsWord n = n < 2 ^ 64

-- a number of 8 bits
abbrev pub IsByte : ℕ → Type 0
IsByte n = n < 2 ^ 8

-- the 64 bytes of a measurement, or of a personalization value
abbrev pub Are64Bytes : List ℕ → Type 0
Are64Bytes bytes = (length bytes ≡ 64) × All IsByte bytes

-- the measurement of a page's bytes, if they are measured
abbrev pub IsContent : Option Measurement → Type 0
IsContent (Some m) = Are64Bytes m.bytes
IsContent None = ⊤

-- the parameters of a realm
pub record IsRealm (p : RealmParams) : Type 0 where
  pub rtt_base : IsWord p.rtt_base
  pub rtt_level_start : IsByte p.rtt_level_start
  pub rtt_num_start : IsByte p.rtt_num_start
  pub s2sz : IsByte p.s2sz
  pub flags : IsWord p.flags
  pub numbers : All IsByte (in_order p.numbers)
  pub rpv : Are64Bytes p.rpv

-- the parameters of a REC: x0 to x7, and at most 16 auxiliary granules
pub record IsRec (r : RecData) : Type 0 where
  pub flags : IsWord r.flags
  pub mpidr : IsWord r.mpidr
  pub pc : IsWord r.pc
  pub gprs : (length r.gprs ≡ 8) × All IsWord r.gprs
  pub aux : (length r.aux ≤ AUX_LIMIT) × All IsWord r.aux

-- a command of the program's type
abbrev pub IsTyped : Command → Type 0
IsTyped (Delegate granule) = IsWord granule
IsTyped (RealmCreate rd params) = IsWord rd × IsRealm params
IsTyped (RttCreate rtt ipa level) = IsWord rtt × IsWord ipa × IsByte level
IsTyped (InitRipas base top) = IsWord base × IsWord top
IsTyped (DataCreate granule ipa content) = IsWord granule × IsWord ipa × IsContent content
IsTyped (DataCreateUnknown granule ipa) = IsWord granule × IsWord ipa
IsTyped (RecCreate rec params) = IsWord rec × IsRec params
IsTyped Activate = ⊤
