-- The addresses in what an accepted command measures have 64 bits: the checks keep them below the end of the protected half.
use Rattle.std.proofs.Common.{◌≡◌, ℕ, zero, suc, ◌+◌, ◌-◌, ◌*◌, ◌/◌, ◌^◌, ◌<◌, ◌≤◌, inl, inr, ◌∙◌, true, false, List, [], ◌∷◌, refl, sym, ap, arith}
use Rattle.std.specs.List.{AllByRecursion}
use Rattle.std.specs.Prelude.{Ok, Result, is_ok}
use Rattle.std.proofs.Math.Pow.{pow_mono}
use Rattle.std.proofs.lemmas.Bool.{and_parts, cases_Bool}
use Rattle.std.proofs.lemmas.Bool.Decides.{nat_tests}
use Rattle.rim_desc.specs.Part.{Data, Part, Realm, Rec, Ripas}
use Rattle.rim_desc.specs.Rule.{extends}
use Rattle.rim_desc.specs.declared.command.Command.{Command}
use Rattle.rim_desc.specs.declared.command.Command.TheVariants.{Activate, DataCreate, DataCreateUnknown, Delegate, InitRipas, RealmCreate, RecCreate, RttCreate}
use Rattle.rim_desc.specs.declared.realm.RealmParams.{RealmParams}
use Rattle.rmm_model.specs.declared.outcome.Refused.{Refused}
use Rattle.rmm_model.specs.declared.outcome.Refused.TheVariants as refusal
use Rattle.rmm_model.specs.Blocks.{size, stretches}
use Rattle.rmm_model.specs.Checks.{checks, is_bad_realm, walk_of}
use Rattle.rmm_model.specs.Effects.{changed, is_runnable, measured, parts, ripas_parts}
use Rattle.rmm_model.specs.Run.{accepted, after, shown}
use Rattle.rmm_model.specs.Start.{protected_end}
use Rattle.rmm_model.specs.State.{State}
use Rattle.rmm_model.specs.Step.{step}
use Rattle.rmm_model.proofs.AnswersOfChecks.{holds, none-holds, off-at}
use Rattle.rmm_model.proofs.ListAfterList.{accepted-taken, shown-taken}
use Rattle.rmm_model.proofs.RimOfShownParts.{step-cases}
use Rattle.rmi_line.specs.Typed.{IsWord}
use Rattle.rim_accepted.proofs.PagesOfItems.{each-append}

-- ---- an accepted command, and those after it

-- the state after a command that is taken
abbrev pub next : State → Command → State
next s c = measured (changed s c) (parts s c)

pub record Taken (s : State) (c : Command) (cs : List Command) : Type 0 where
  pub at : step s c ≡ Ok (next s c)
  pub off : holds (checks s c) ≡ false
  pub others : accepted (next s c) cs ≡ true

pub taken : (s : State) (c : Command) (cs : List Command) → accepted s (c ∷ cs) ≡ true → Taken s c cs
unfolding accepted
taken s c cs all = elim (step-cases s c) [
  | inl at ↦ record { at = at; off = none-holds (checks s c) (next s c) (next s c) at; others = sym (accepted-taken s (next s c) c cs at) ∙ all }
  | inr refused ↦
      let none : is_ok (step s c) ≡ false = ap (λ (r : Result State Refused). is_ok r) refused.1 in
      let some : is_ok (step s c) ≡ true = (and_parts (is_ok (step s c)) (accepted (after s (step s c)) cs) all).0 in
      absurd (cc)
]

-- ---- the end of the protected half

pub measured-space : (s : State) (ps : List Part) → (measured s ps).space ≡ s.space
measured-space s [] = refl
measured-space s (part ∷ ps) = refl

abbrev pub IsLow : State → Type 0
IsLow s = s.space.protected_end ≤ 2 ^ 47

width-low : (p : RealmParams) → is_bad_realm p ≡ false → protected_end p.s2sz ≤ 2 ^ 47
width-low p good =
    let wide : p.s2sz ≤ 48 = grind (arith, nat_tests) in
    pow_mono {j = 47} (omega arith)

changed-low : (s : State) (c : Command) → IsLow s → holds (checks s c) ≡ false → IsLow (changed s c)
changed-low s (Delegate granule) low off = low
changed-low s (RealmCreate rd params) low off = width-low params (off-at (checks s (RealmCreate rd params)) 1 refusal.State off)
changed-low s (RttCreate rtt ipa level) low off = low
changed-low s (InitRipas base top) low off = low
changed-low s (DataCreate granule ipa content) low off = low
changed-low s (DataCreateUnknown granule ipa) low off = low
changed-low s (RecCreate rec params) low off = low
changed-low s Activate low off = low

pub next-low : (s : State) (c : Command) → IsLow s → holds (checks s c) ≡ false → IsLow (next s c)
next-low s c low off = rw (measured-space (changed s c) (parts s c)) (changed-low s c low off)

-- ---- addresses

abbrev pub HasAddresses : Part → Type 0
HasAddresses (Realm page) = Unit {0}
HasAddresses (Ripas base top) = IsWord base × IsWord top
HasAddresses (Data ipa content) = IsWord ipa
HasAddresses (Rec content) = Unit {0}

stretches-fit : (n s x end : ℕ) → x + n * s ≤ end → end < 2 ^ 64 → AllByRecursion HasAddresses (ripas_parts (stretches n s x))
unfolding stretches
stretches-fit zero s x end within low = tt
stretches-fit (suc n) s x end within low =
    let all : x + (s + n * s) ≤ end = omega (arith, within) in
    ((omega arith, omega arith), stretches-fit n s (x + s) end (omega arith) low)

blocks-within : (base top entry : ℕ) → base < top → base + (top - base) / entry * entry ≤ top
blocks-within base top zero more = omega arith
blocks-within base top (suc e) more = omega arith

parts-addressed : (s : State) (c : Command) → IsLow s → holds (checks s c) ≡ false → AllByRecursion HasAddresses (parts s c)
parts-addressed s (Delegate granule) low off = tt
parts-addressed s (RealmCreate rd params) low off = (tt, tt)
parts-addressed s (RttCreate rtt ipa level) low off = tt
parts-addressed s (InitRipas base top) low off =
    let order = off-at (checks s (InitRipas base top)) 1 refusal.State off in
    let more : base < top = grind (arith, nat_tests) in
    let outside = off-at (checks s (InitRipas base top)) 3 refusal.State off in
    let inside : top ≤ s.space.protected_end = grind (arith, nat_tests) in
    let entry : ℕ = size (walk_of s.space base) in
    stretches-fit ((top - base) / entry) entry base top (blocks-within base top entry more) (omega arith)
parts-addressed s (DataCreate granule ipa content) low off =
    let outside = off-at (checks s (DataCreate granule ipa content)) 3 refusal.State off in
    let inside : ipa < s.space.protected_end = grind (arith, nat_tests) in
    (omega arith, tt)
parts-addressed s (DataCreateUnknown granule ipa) low off = tt
parts-addressed s (RecCreate rec params) low off = elim (cases_Bool (extends s.rule (is_runnable params.flags))) [
  | inl on ↦ rw on (tt, tt)
  | inr none ↦ rw none tt
]
parts-addressed s Activate low off = tt

-- all that is measured for accepted commands
pub shown-addressed : (cs : List Command) (s : State) → IsLow s → accepted s cs ≡ true → AllByRecursion HasAddresses (shown s cs)
unfolding shown
shown-addressed [] s low all = tt
shown-addressed (c ∷ cs) s low all =
    let here : Taken s c cs = taken s c cs all in
    rw (shown-taken s (next s c) c cs here.at) (each-append HasAddresses (parts s c) (shown (next s c) cs) (parts-addressed s c low here.off)
    (shown-addressed cs (next s c) (next-low s c low here.off) here.others))
