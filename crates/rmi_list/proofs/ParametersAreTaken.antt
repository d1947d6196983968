-- The monitor takes the parameters of a launch's realm.
use Rattle.std.proofs.Common.{inl, inr, ◌≡◌, ℕ, zero, suc, ◌+◌, ◌-◌, ◌*◌, ◌%◌, ◌^◌, ◌<◌, ◌≤◌, refl, arith, Bool, true, false, cond, leb, ltb, eqb}
use Rattle.std.proofs.lemmas.Bool.{cases_Bool}
use Rattle.std.proofs.lemmas.Bool.Decides.{nat_tests}
use Rattle.rmm_model.specs.Checks.{has_other_flags, is_bad_realm}
use Rattle.rmm_model.specs.Start.{is_width, start_count, start_level}
use Rattle.rim_launch.specs.Realm.{realm_params}
use Rattle.rim_launch.specs.declared.config.Config.{Config}

-- ---- start tables

width-more : (w : ℕ) → 32 ≤ w → w ≤ 48 → w - (12 + 9 * (4 - start_level w)) ≤ 4
width-more w lo hi = elim (cases_Bool (leb w 34)) [
  | inl h ↦ (let f : w ≤ 34 = grind (arith, nat_tests) in rw h (omega arith))
  | inr h ↦ rw h (elim (cases_Bool (leb w 43)) [
    | inl g ↦ (let f : w ≤ 43 = grind (arith, nat_tests) in rw g (omega arith))
    | inr g ↦ rw g (omega arith)
  ])
]

-- at most 16 tables, which the pool's first granule aligns
record AreFew (n : ℕ) : Type 0 where
  most : n ≤ 16
  place : (x : ℕ) → x % 65536 ≡ 0 → x % (n * 4096) ≡ 0

power-few : (d : ℕ) → d ≤ 4 → AreFew (2 ^ d)
power-few zero h = record { most = omega arith; place = λ x at. omega arith }
power-few (suc zero) h = record { most = omega arith; place = λ x at. omega arith }
power-few (suc (suc zero)) h = record { most = omega arith; place = λ x at. omega arith }
power-few (suc (suc (suc zero))) h = record { most = omega arith; place = λ x at. omega arith }
power-few (suc (suc (suc (suc zero)))) h = record { most = omega arith; place = λ x at. omega arith }
power-few (suc (suc (suc (suc (suc d))))) h = absurd (omega arith)

no-other : (a b : Bool) → has_other_flags (cond a 2 0 + cond b 4 0) ≡ false
no-other true true = refl
no-other true false = refl
no-other false true = refl
no-other false false = refl

pub good-realm : (c : Config) → is_bad_realm (realm_params c) ≡ false
good-realm c =
    let n : ℕ = start_count c.s2sz in
    let width : is_width c.s2sz ≡ true = c.width in
    let lo : 32 ≤ c.s2sz = grind (arith, nat_tests) in
    let hi : c.s2sz ≤ 48 = grind (arith, nat_tests) in
    let few : AreFew n = power-few (c.s2sz - (12 + 9 * (4 - start_level c.s2sz))) (width-more c.s2sz lo hi) in
    let most : n ≤ 16 = few.most in
    let top : c.pool_base < 2 ^ 48 = c.pool_low in
    let flags = no-other c.sve c.pmu in
    let level : eqb (start_level c.s2sz) (start_level c.s2sz) ≡ true = grind (arith, nat_tests) in
    let count : eqb n n ≡ true = grind (arith, nat_tests) in
    let place : c.pool_base % (n * 4096) ≡ 0 = few.place c.pool_base c.pool_aligned in
    let room : ltb (2 ^ 64) (c.pool_base + n * 4096) ≡ false = grind (arith, nat_tests) in
    rw (flags, width) (rw (level, count) (rw (place, room) refl))
