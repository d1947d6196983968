-- Stretches become RAM one after another, and each is measured.
use Rattle.std.proofs.Common.{◌≡◌, ℕ, zero, suc, ◌+◌, ◌-◌, ◌*◌, ◌/◌, ◌%◌, ◌<◌, ◌≤◌, inl, inr, false, refl, ap, arith}
use Rattle.std.specs.Prelude.{Some}
use Rattle.std.proofs.lemmas.Bool.{cases_lt}
use Rattle.std.proofs.lemmas.Bool.Decides.{nat_tests}
use Rattle.rim_desc.specs.Part.{extended_by}
use Rattle.rmm_model.specs.Blocks.{down, size, stretches}
use Rattle.rmm_model.specs.Checks.{is_cut}
use Rattle.rmm_model.specs.Effects.{measured, ripas_parts}
use Rattle.rmm_model.specs.State.{State, algo_of, measured_so_far}
use Rattle.rmm_model.proofs.BlockArithmetic.{down-lt, down-multiple, in-block, size-pos}

-- a state measured by some stretches
pub measured-stretches : (s : State) (n size from : ℕ) → 0 < n
    → measured s (ripas_parts (stretches n size from))
    ≡ record s { rim = Some (extended_by (algo_of s.params) (measured_so_far s.rim) (ripas_parts (stretches n size from))) }
unfolding stretches
measured-stretches s zero size from some = absurd (omega arith)
measured-stretches s (suc n) size from some = refl

-- multiples of n that differ, differ by n at least
apart : (n base top : ℕ) → 0 < n → base % n ≡ 0 → top % n ≡ 0 → base < top → n ≤ top - base
apart n base top pos low high lt = elim (cases_lt (top - base) n) [
  | inr more ↦ more
  | inl less ↦
      let from : down n base ≡ base = down-multiple n base pos low in
      let to : down n top ≡ top = down-multiple n top pos high in
      let at : down n base ≤ top = omega arith in
      let within : top < down n base + n = omega arith in
      let block : top / n ≡ base / n = in-block n base top at within in
      let same : down n top ≡ down n base = ap (λ q. q * n) block in
      absurd (omega arith)
]

one-of : (n d : ℕ) → 0 < n → n ≤ d → 0 < d / n
one-of n d pos le = elim (cases_lt 0 (d / n)) [
  | inl some ↦ some
  | inr few ↦
      let none : d / n ≡ 0 = omega arith in
      let under : d < down n d + n = down-lt n d pos in
      let zero_down : down n d ≡ 0 = rw none (omega arith) in
      absurd (omega arith)
]

-- a range that is made of whole entries has one
pub count-some : (level base top : ℕ) → base < top → is_cut level base top ≡ false → 0 < (top - base) / size level
count-some level base top lt whole =
    let low : base % size level ≡ 0 = grind (arith, nat_tests) in
    let high : top % size level ≡ 0 = grind (arith, nat_tests) in
    one-of (size level) (top - base) (size-pos level) (apart (size level) base top (size-pos level) low high lt)
