-- A growing run, with the entries after it, makes the runs from its base on.
use Rattle.std.proofs.Common.{inl, inr, ◌≡◌, ℕ, ◌+◌, ◌/◌, ◌<◌, ◌≤◌, ◌∙◌, sym, ap, refl, arith, true, false, cond, ◌&&◌, eqb, List, [], ◌∷◌}
use Rattle.std.proofs.lemmas.Bool.Decides.{nat_tests}
use Rattle.rmm_model.specs.Blocks.{size, span}
use Rattle.rmm_model.proofs.BlockArithmetic.{size-pos}
use Rattle.std.proofs.lemmas.Bool.{cases_Bool}
use Rattle.rtt_plan.specs.declared.run.Run.{Run}
use Rattle.rtt_plan.specs.Entries.{block_level}
use Rattle.rtt_plan.specs.Places.{AtEntry, IsRegion}
use Rattle.rtt_plan.specs.Runs.{group, put, runs_from}
use Rattle.rtt_plan.proofs.EntryByEntry.{at-next, entries-end, entries-next}

-- a run put in front of runs: it joins the first of them where level and table are equal
abbrev pub join : Run → List Run → List Run
join o [] = o ∷ []
join o (r ∷ rs) =
    cond (eqb r.level o.level && eqb (r.base / span o.level) (o.base / span o.level))
    (record { base = o.base; top = r.top; level = o.level } ∷ rs)
    (o ∷ r ∷ rs)

-- a growing run meets the next entry: it grows where level and table are equal, and is closed elsewhere
pub join-same : (o : Run) (l x : ℕ) (rs : List Run) → l ≡ o.level → x / span o.level ≡ o.base / span o.level
    → join o (put l x rs) ≡ join (record { base = o.base; top = x + size l; level = o.level }) rs
join-same o l x [] e s =
    let t : eqb l o.level && eqb (x / span o.level) (o.base / span o.level) ≡ true = grind (arith, nat_tests) in rw t refl
join-same o l x (r ∷ rs) e s =
    let t : eqb l o.level && eqb (x / span o.level) (o.base / span o.level) ≡ true = grind (arith, nat_tests) in
    let same : eqb r.level l && eqb (r.base / span l) (x / span l) ≡ eqb r.level o.level && eqb (r.base / span o.level) (o.base / span o.level) = rw (e, s) refl in
    elim (cases_Bool (eqb r.level o.level && eqb (r.base / span o.level) (o.base / span o.level))) [
      | inl h ↦ rw (same ∙ h) (rw t (rw h refl))
      | inr h ↦ rw (same ∙ h) (rw t (rw h refl))
    ]

pub join-apart : (o : Run) (l x : ℕ) (rs : List Run) → eqb l o.level && eqb (x / span o.level) (o.base / span o.level) ≡ false
    → join o (put l x rs) ≡ o ∷ put l x rs
join-apart o l x [] f = rw f refl
join-apart o l x (r ∷ rs) f =
    elim (cases_Bool (eqb r.level l && eqb (r.base / span l) (x / span l))) [
      | inl h ↦ rw h (rw f refl)
      | inr h ↦ rw h (rw f refl)
    ]

-- the first entry of a run, before it grows
pub join-put : (l x : ℕ) (rs : List Run) → join (record { base = x; top = x + size l; level = l }) rs ≡ put l x rs
join-put l x [] = refl
join-put l x (r ∷ rs) = refl

-- a run that is growing at an entry of the region: with the entries after it, it makes the runs from its base on
pub record IsGrowing (base end least_level : ℕ) (o : Run) : Type 0 where
  pub at : AtEntry base end least_level o.top
  pub grows : o.base < o.top
  pub whole : join o (runs_from base end least_level o.top) ≡ runs_from base end least_level o.base

-- the runs from an entry on: its block in front of the runs after it
pub runs-next : (base end least_level x : ℕ) → IsRegion base end → least_level ≤ 3 → AtEntry base end least_level x → x < end
    → runs_from base end least_level x ≡ put (block_level base end least_level x) x (runs_from base end least_level (x + size (block_level base end least_level x)))
unfolding group
runs-next base end least_level x region low at some = ap (group (block_level base end least_level)) (entries-next base end least_level x region low at some)

pub runs-end : (base end least_level x : ℕ) → end ≤ x → runs_from base end least_level x ≡ []
unfolding group
runs-end base end least_level x h = ap (group (block_level base end least_level)) (entries-end base end least_level x h)

pub grow-start : (base end least_level x l s : ℕ) → IsRegion base end → least_level ≤ 3 → AtEntry base end least_level x → x < end
    → l ≡ block_level base end least_level x → s ≡ size l → IsGrowing base end least_level (record { base = x; top = x + s; level = l })
grow-start base end least_level x l s region low at some level bytes =
    let m : ℕ = block_level base end least_level x in
    let top : x + s ≡ x + size m = ap (λ n. x + n) (bytes ∙ ap size level) in
    record {
      at = rw top (at-next base end least_level x region low at some);
      grows = omega (arith, bytes, size-pos l);
      whole = rw (top, level) (join-put m x (runs_from base end least_level (x + size m)) ∙ sym (runs-next base end least_level x region low at some));
    }

pub grow-more : (base end least_level s : ℕ) (o : Run) → IsRegion base end → least_level ≤ 3 → IsGrowing base end least_level o → o.top < end → s ≡ size o.level
    → true ≡ (eqb (block_level base end least_level o.top) o.level && eqb (o.top / span o.level) (o.base / span o.level))
    → IsGrowing base end least_level (record { base = o.base; top = o.top + s; level = o.level })
grow-more base end least_level s o region low growing some bytes test =
    let m : ℕ = block_level base end least_level o.top in
    let level : m ≡ o.level = grind (arith, nat_tests) in
    let table : o.top / span o.level ≡ o.base / span o.level = grind (arith, nat_tests) in
    let top : o.top + s ≡ o.top + size m = ap (λ n. o.top + n) (bytes ∙ ap size (sym level)) in
    let grows : o.base < o.top = growing.grows in
    record {
      at = rw top (at-next base end least_level o.top region low growing.at some);
      grows = omega arith;
      whole = rw top (sym (join-same o m o.top (runs_from base end least_level (o.top + size m)) level table)
          ∙ ap (join o) (sym (runs-next base end least_level o.top region low growing.at some)) ∙ growing.whole);
    }

-- a run that cannot grow is the first of the runs
pub closed-end : (base end least_level : ℕ) (o : Run) → IsGrowing base end least_level o → end ≤ o.top
    → runs_from base end least_level o.base ≡ o ∷ runs_from base end least_level o.top
closed-end base end least_level o growing h =
    let none = runs-end base end least_level o.top h in
    sym growing.whole ∙ ap (join o) none ∙ ap (λ rs. o ∷ rs) (sym none)

pub closed-apart : (base end least_level : ℕ) (o : Run) → IsRegion base end → least_level ≤ 3 → IsGrowing base end least_level o → o.top < end
    → false ≡ (eqb (block_level base end least_level o.top) o.level && eqb (o.top / span o.level) (o.base / span o.level))
    → runs_from base end least_level o.base ≡ o ∷ runs_from base end least_level o.top
closed-apart base end least_level o region low growing some test =
    let next = runs-next base end least_level o.top region low growing.at some in
    sym growing.whole ∙ ap (join o) next ∙ join-apart o _ _ _ (sym test) ∙ ap (λ rs. o ∷ rs) (sym next)
