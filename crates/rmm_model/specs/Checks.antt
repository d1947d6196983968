-- The checks of each command. A command is refused by the first check of its row that holds.
--
-- The conditions are those of DEN0137 for the RMI command of that name, as far as they speak of what
-- is modelled. This project's choice are the names of the refusals and their order; that realms have
-- no LPA2 (flag 0), and tables in the protected half alone; that an InitRipas is taken only where it
-- can be carried out whole, in the table in which the walk of its base ends (WalkLevel), and only
-- where no page of its range is RAM and no deeper table lies in it (NotFresh); that a DataCreate or a
-- DataCreateUnknown needs a page that is RAM (NotRam); and that a REC is runnable where the monitor has no rule for those
-- that are not.
use Rattle.std.specs.Prelude.{ℕ, ◌+◌, ◌-◌, ◌*◌, ◌/◌, ◌%◌, ◌^◌, ◌==◌, nat_le, nat_lt, not, ◌||◌, Bool, false, List, [], ◌∷◌, length, drop, is_some, Option, Some, None}
use Rattle.std.specs.List.{list_all}
use Rattle.rim_desc.specs.declared.command.Command.{Command}
use Rattle.rim_desc.specs.declared.command.Command.TheVariants.{Delegate, RealmCreate, RttCreate, InitRipas, DataCreate, DataCreateUnknown, RecCreate, Activate}
use Rattle.rim_desc.specs.declared.measurement.Algo.{Algo}
use Rattle.rim_desc.specs.declared.measurement.Algo.TheVariants.{Sha256}
use Rattle.rim_desc.specs.declared.measurement.Measurement.{Measurement}
use Rattle.rim_desc.specs.declared.realm.RealmParams.{RealmParams}
use Rattle.rim_desc.specs.declared.rule.RecRule.{RecRule}
use Rattle.rim_desc.specs.Rec.{RecData}
use Rattle.rmm_model.specs.declared.outcome.Refused.{Refused}
use Rattle.rmm_model.specs.declared.outcome.Refused.TheVariants.{State, BadParams, Unaligned, OutsideProtected, WalkLevel, NotFresh, NotRam, Assigned, RecIndex, AuxCount, NotUndelegated, NotDelegated}
use Rattle.refusal.specs.Checks.{Check}
use Rattle.rmm_model.specs.Blocks.{down, granules, is_multiple, size, span}
use Rattle.rmm_model.specs.Start.{is_width, start_count, start_level}
use Rattle.rmm_model.specs.Space.{Space, deeper, has, is_ram, overlaps, walk}
use Rattle.rmm_model.specs.Owners.{all_delegated, is_delegated, kind_of, repeats}
use Rattle.rmm_model.specs.State as monitor
use Rattle.rim_desc.specs.declared.page.TheConstants.{PAGE_SIZE}

-- the level at which the walk of an address ends
abbrev pub walk_of : Space → ℕ → ℕ
walk_of s x = walk s.start s.tables x

-- ---- parameters

-- flags other than SVE and PMU, which are bits 1 and 2
abbrev pub has_other_flags : ℕ → Bool
has_other_flags flags = not (flags % 2 == 0) || nat_le 8 flags

-- where the start tables are
abbrev pub start_tables : RealmParams → List ℕ
start_tables p = granules p.rtt_num_start p.rtt_base

abbrev pub is_bad_realm : RealmParams → Bool
is_bad_realm p = has_other_flags p.flags || not (is_width p.s2sz)
    || not (p.rtt_level_start == start_level p.s2sz) || not (p.rtt_num_start == start_count p.s2sz)
    || not (is_multiple (p.rtt_num_start * PAGE_SIZE) p.rtt_base) || nat_lt (2 ^ 64) (p.rtt_base + p.rtt_num_start * PAGE_SIZE)

-- a SHA-256 measurement with a byte that is not zero past the first 32
abbrev pub is_bad_content : Algo → Option Measurement → Bool
is_bad_content Sha256 (Some content) = not (list_all (λ byte. byte == 0) (drop 32 content.bytes))
is_bad_content _ _ = false

-- the number in some bits of a word, from a low bit on. DEN0137, RmiRecMpidr, for the fields below
abbrev pub field : ℕ → ℕ → ℕ → ℕ
field low width x = x / 2 ^ low % 2 ^ width

-- flags other than runnable, which is bit 0; without a rule that bit is set
abbrev pub has_bad_flags : Option RecRule → ℕ → Bool
has_bad_flags None flags = not (flags == 1)
has_bad_flags (Some rule) flags = nat_le 2 flags

-- bad flags, or an MPIDR with bits other than 3:0 and 31:8
abbrev pub is_bad_rec : Option RecRule → RecData → Bool
is_bad_rec rule r = has_bad_flags rule r.flags || not (field 4 4 r.mpidr == 0) || nat_le (2 ^ 32) r.mpidr

-- the index that an MPIDR names: Aff0 has 4 bits, Aff1 to Aff3 have 8 each
abbrev pub rec_index : ℕ → ℕ
rec_index mpidr = field 0 4 mpidr + 16 * field 8 8 mpidr + 4096 * field 16 8 mpidr + 1048576 * field 24 8 mpidr

-- ---- InitRipas, where the walk of base ends at a level

-- it is not made of whole entries of that level, or passes the table that holds base
abbrev pub is_cut : ℕ → ℕ → ℕ → Bool
is_cut level base top = not (is_multiple (size level) base) || not (is_multiple (size level) top)
    || nat_lt (down (span level) base + span level) top

-- a page of the range is RAM, or a deeper table has its first address in it
abbrev pub is_not_fresh : Space → ℕ → ℕ → ℕ → Bool
is_not_fresh s level base top = overlaps s.ram base top || deeper s.tables level base top

-- ---- the rows

abbrev pub delegate_checks : monitor.State → ℕ → List (Check Refused)
delegate_checks s granule =
    (Unaligned, not (is_multiple PAGE_SIZE granule))
    ∷ (NotUndelegated, is_some (kind_of s.owners granule)) ∷ []

abbrev pub realm_checks : monitor.State → ℕ → RealmParams → List (Check Refused)
realm_checks s rd p =
    (State, not (monitor.is_empty s.phase))
    ∷ (BadParams, is_bad_realm p)
    ∷ (Unaligned, not (is_multiple PAGE_SIZE rd))
    ∷ (NotDelegated, not (is_delegated s.owners rd) || not (all_delegated s.owners (start_tables p)) || has (start_tables p) rd) ∷ []

abbrev pub table_checks : monitor.State → ℕ → ℕ → ℕ → List (Check Refused)
table_checks s rtt ipa level =
    (State, monitor.is_empty s.phase)
    ∷ (BadParams, nat_le level s.space.start || nat_lt 3 level)
    ∷ (Unaligned, not (is_multiple PAGE_SIZE rtt) || not (is_multiple (size (level - 1)) ipa))
    ∷ (OutsideProtected, nat_le s.space.protected_end ipa)
    ∷ (WalkLevel, not (walk_of s.space ipa == level - 1))
    ∷ (NotDelegated, not (is_delegated s.owners rtt)) ∷ []

abbrev pub ripas_checks : monitor.State → ℕ → ℕ → List (Check Refused)
ripas_checks s base top =
    (State, not (monitor.is_new s.phase))
    ∷ (BadParams, nat_le top base)
    ∷ (Unaligned, not (is_multiple PAGE_SIZE base) || not (is_multiple PAGE_SIZE top))
    ∷ (OutsideProtected, nat_lt s.space.protected_end top)
    ∷ (WalkLevel, is_cut (walk_of s.space base) base top)
    ∷ (NotFresh, is_not_fresh s.space (walk_of s.space base) base top) ∷ []

-- whether a page can get data in a granule, measured or not
abbrev pub page_checks : monitor.State → ℕ → ℕ → List (Check Refused)
page_checks s granule ipa =
    (Unaligned, not (is_multiple PAGE_SIZE granule) || not (is_multiple PAGE_SIZE ipa))
    ∷ (OutsideProtected, nat_le s.space.protected_end ipa)
    ∷ (WalkLevel, not (walk_of s.space ipa == 3))
    ∷ (NotRam, not (is_ram s.space.ram ipa))
    ∷ (Assigned, has s.space.assigned ipa)
    ∷ (NotDelegated, not (is_delegated s.owners granule)) ∷ []

abbrev pub data_checks : monitor.State → ℕ → ℕ → Option Measurement → List (Check Refused)
data_checks s granule ipa content =
    (State, not (monitor.is_new s.phase))
    ∷ (BadParams, is_bad_content (monitor.algo_of s.params) content)
    ∷ page_checks s granule ipa

-- content that the monitor does not know may come after activation too
abbrev pub unknown_data_checks : monitor.State → ℕ → ℕ → List (Check Refused)
unknown_data_checks s granule ipa = (State, monitor.is_empty s.phase) ∷ page_checks s granule ipa

abbrev pub rec_checks : monitor.State → ℕ → RecData → List (Check Refused)
rec_checks s rec r =
    (State, not (monitor.is_new s.phase))
    ∷ (BadParams, is_bad_rec s.rule r)
    ∷ (Unaligned, not (is_multiple PAGE_SIZE rec) || not (list_all (is_multiple PAGE_SIZE) r.aux))
    ∷ (RecIndex, not (rec_index r.mpidr == s.num_recs))
    ∷ (AuxCount, not (length r.aux == s.num_aux))
    ∷ (NotDelegated, not (all_delegated s.owners (rec ∷ r.aux)) || repeats (rec ∷ r.aux)) ∷ []

abbrev pub activate_checks : monitor.State → List (Check Refused)
activate_checks s = (State, not (monitor.is_new s.phase)) ∷ []

abbrev pub checks : monitor.State → Command → List (Check Refused)
checks s (Delegate granule) = delegate_checks s granule
checks s (RealmCreate rd params) = realm_checks s rd params
checks s (RttCreate rtt ipa level) = table_checks s rtt ipa level
checks s (InitRipas base top) = ripas_checks s base top
checks s (DataCreate granule ipa content) = data_checks s granule ipa content
checks s (DataCreateUnknown granule ipa) = unknown_data_checks s granule ipa
checks s (RecCreate rec params) = rec_checks s rec params
checks s Activate = activate_checks s
