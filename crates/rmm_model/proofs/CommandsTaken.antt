-- When each command is taken, and what state comes after it.
use Rattle.std.proofs.Common.{◌≡◌, ℕ, ◌+◌, ◌-◌, ◌%◌, ◌<◌, ◌≤◌, refl, arith, true, false, ◌||◌, leb, ltb, eqb, ◌∷◌, length}
use Rattle.std.specs.Prelude.{Option, Some, None, Ok}
use Rattle.std.specs.List.{list_all}
use Rattle.std.proofs.lemmas.Bool.Decides.{nat_tests}
use Rattle.rim_desc.specs.declared.command.Command.TheVariants.{Delegate, RealmCreate, RttCreate, InitRipas, DataCreate, DataCreateUnknown, RecCreate, Activate}
use Rattle.rim_desc.specs.declared.measurement.Measurement.{Measurement}
use Rattle.rim_desc.specs.declared.realm.RealmParams.{RealmParams}
use Rattle.rim_desc.specs.Rec.{RecData}
use Rattle.rmm_model.specs.declared.outcome.Kind.TheVariants.{Delegated}
use Rattle.rmm_model.specs.Blocks.{down, is_multiple, size, span}
use Rattle.rmm_model.specs.Space.{deeper, has, is_ram, overlaps}
use Rattle.rmm_model.specs.Owners.{all_delegated, is_delegated, kind_of, repeats}
use Rattle.rmm_model.specs.State.{State, algo_of, is_empty, is_new}
use Rattle.rmm_model.specs.Checks.{is_bad_content, is_bad_realm, is_bad_rec, rec_index, start_tables, walk_of}
use Rattle.rmm_model.specs.Effects.{changed, measured, parts}
use Rattle.rmm_model.specs.Step.{step}

pub delegate-taken : (s : State) (g : ℕ) → g % 4096 ≡ 0 → kind_of s.owners g ≡ None
    → step s (Delegate g) ≡ Ok (changed s (Delegate g))
delegate-taken s g at free = rw (at, free) refl

pub rtt_create-taken : (s : State) (g ipa level : ℕ) → is_empty s.phase ≡ false → s.space.start < level → level ≤ 3 → g % 4096 ≡ 0
    → ipa % size (level - 1) ≡ 0 → ipa < s.space.protected_end → walk_of s.space ipa ≡ level - 1 → kind_of s.owners g ≡ Some Delegated
    → step s (RttCreate g ipa level) ≡ Ok (changed s (RttCreate g ipa level))
rtt_create-taken s g ipa level phase lo hi at place inside walk own =
    let t1 : (leb level s.space.start || ltb 3 level) ≡ false = grind (arith, nat_tests) in
    let t2 : leb s.space.protected_end ipa ≡ false = grind (arith, nat_tests) in
    let t3 : eqb (level - 1) (level - 1) ≡ true = grind (arith, nat_tests) in
    rw phase (rw t1 (rw (at, place) (rw t2 (rw walk (rw t3 (rw own refl))))))

-- after these the state is measured too
pub init_ripas-taken : (s : State) (base top level : ℕ) → is_new s.phase ≡ true → base < top → base % 4096 ≡ 0 → top % 4096 ≡ 0 → top ≤ s.space.protected_end
    → walk_of s.space base ≡ level → base % size level ≡ 0 → top % size level ≡ 0 → top ≤ down (span level) base + span level
    → overlaps s.space.ram base top ≡ false → deeper s.space.tables level base top ≡ false
    → step s (InitRipas base top) ≡ Ok (measured (changed s (InitRipas base top)) (parts s (InitRipas base top)))
init_ripas-taken s base top level phase lt low high inside walk low_at high_at in_table fresh none =
    let t1 : leb top base ≡ false = grind (arith, nat_tests) in
    let t2 : ltb s.space.protected_end top ≡ false = grind (arith, nat_tests) in
    let t3 : ltb (down (span level) base + span level) top ≡ false = grind (arith, nat_tests) in
    rw phase (rw t1 (rw (low, high) (rw t2 (rw walk (rw (low_at, high_at) (rw t3 (rw (fresh, none) refl)))))))

pub data_create-taken : (s : State) (g ipa : ℕ) (content : Option Measurement) → is_new s.phase ≡ true → is_bad_content (algo_of s.params) content ≡ false
    → g % 4096 ≡ 0 → ipa % 4096 ≡ 0 → ipa < s.space.protected_end → walk_of s.space ipa ≡ 3 → is_ram s.space.ram ipa ≡ true → has s.space.assigned ipa ≡ false
    → kind_of s.owners g ≡ Some Delegated
    → step s (DataCreate g ipa content) ≡ Ok (measured (changed s (DataCreate g ipa content)) (parts s (DataCreate g ipa content)))
data_create-taken s g ipa content phase good at place inside walk ram free own =
    let t1 : leb s.space.protected_end ipa ≡ false = grind (arith, nat_tests) in
    rw phase (rw good (rw (at, place) (rw t1 (rw walk (rw ram (rw free (rw own refl)))))))

-- this one measures nothing
pub data_create_unknown-taken : (s : State) (g ipa : ℕ) → is_empty s.phase ≡ false → g % 4096 ≡ 0 → ipa % 4096 ≡ 0 → ipa < s.space.protected_end
    → walk_of s.space ipa ≡ 3 → is_ram s.space.ram ipa ≡ true → has s.space.assigned ipa ≡ false → kind_of s.owners g ≡ Some Delegated
    → step s (DataCreateUnknown g ipa) ≡ Ok (changed s (DataCreateUnknown g ipa))
data_create_unknown-taken s g ipa phase at place inside walk ram free own =
    let t1 : leb s.space.protected_end ipa ≡ false = grind (arith, nat_tests) in
    rw phase (rw (at, place) (rw t1 (rw walk (rw ram (rw free (rw own refl))))))

pub rec_create-taken : (s : State) (g : ℕ) (r : RecData) → is_new s.phase ≡ true → is_bad_rec s.rule r ≡ false → g % 4096 ≡ 0 → list_all (is_multiple 4096) r.aux ≡ true
    → rec_index r.mpidr ≡ s.num_recs → length r.aux ≡ s.num_aux → all_delegated s.owners (g ∷ r.aux) ≡ true → repeats (g ∷ r.aux) ≡ false
    → step s (RecCreate g r) ≡ Ok (measured (changed s (RecCreate g r)) (parts s (RecCreate g r)))
rec_create-taken s g r phase good at places index count own apart =
    let t1 : eqb s.num_recs s.num_recs ≡ true = grind (arith, nat_tests) in
    let t2 : eqb s.num_aux s.num_aux ≡ true = grind (arith, nat_tests) in
    rw phase (rw good (rw at (rw places (rw index (rw t1 (rw count (rw t2 (rw (own, apart) refl))))))))

pub realm_create-taken : (s : State) (rd : ℕ) (p : RealmParams) → is_empty s.phase ≡ true → is_bad_realm p ≡ false → rd % 4096 ≡ 0
    → is_delegated s.owners rd ≡ true → all_delegated s.owners (start_tables p) ≡ true → has (start_tables p) rd ≡ false
    → step s (RealmCreate rd p) ≡ Ok (measured (changed s (RealmCreate rd p)) (parts s (RealmCreate rd p)))
realm_create-taken s rd p phase good at own own_tables apart =
    rw phase (rw good (rw at (rw own (rw (own_tables, apart) refl))))

pub activate-taken : (s : State) → is_new s.phase ≡ true → step s Activate ≡ Ok (changed s Activate)
activate-taken s phase = rw phase refl
