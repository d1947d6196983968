-- Spaces that are the same, whatever the order and the pieces in which they are kept.
use Rattle.std.proofs.Common.{inl, inr, ◌≡◌, ℕ, ◌<◌, ◌≤◌, ◌∙◌, sym, refl, ap, arith, Bool, true, false, ◌&&◌, ◌||◌, leb, ltb, eqb, List, [], ◌∷◌, ◌++◌}
use Rattle.std.proofs.lemmas.Bool.{cases_Bool}
use Rattle.std.proofs.lemmas.Bool.Decides.{nat_tests}
use Rattle.std.specs.BTreeSet.{insert_key}
use Rattle.rmm_model.specs.declared.table.Table.{Table}
use Rattle.rmm_model.specs.Space.{ArePlaced, SameSpace, SameTables, Space, after_page, after_run, after_table, are_some, deeper, is_ram, made, overlaps, table_cmp, walk}
use Rattle.rmm_model.specs.Checks.{walk_of}
use Rattle.rmm_model.proofs.AppendedSpaces.{made-append}
use Rattle.rmm_model.proofs.RangesOfRam.{overlaps-some, some-overlaps}
use Rattle.rmm_model.proofs.OneMoreInSpace.{has-insert, is_ram-insert, made-insert, overlaps-insert}
use Rattle.rmm_model.proofs.EndsOfWalks.{EndsAt, made-here, made-there, walk-ends, walk-from, walk-least}

-- tests that hold together are the same
both-ways : (a b : Bool) → (a ≡ true → b ≡ true) → (b ≡ true → a ≡ true) → a ≡ b
both-ways true b there back = sym (there refl)
both-ways false true there back = back refl
both-ways false false there back = refl

-- ---- tables

pub append-alike : (ts us new : List Table) → SameTables ts us → SameTables (ts ++ new) (us ++ new)
append-alike ts us new alike level base =
    made-append ts new level base ∙ ap (λ b. b || made new level base) (alike level base) ∙ sym (made-append us new level base)

-- a table put in its place in the order, and put at the end
pub insert-alike : (ts us : List Table) (t : Table) → SameTables ts us → SameTables (insert_key table_cmp ts t) (us ++ t ∷ [])
insert-alike ts us t alike level base =
    let h = made-insert ts t level base in
    let k = made-append us (t ∷ []) level base in
    let old = alike level base in
    grind (arith, nat_tests)

pub placed-alike : (start : ℕ) (ts us : List Table) → SameTables ts us → ArePlaced start ts → ArePlaced start us
placed-alike start ts us alike placed = record { shape = λ level base m. placed.shape level base (alike level base ∙ m) }

walk-below : (start x : ℕ) (ts us : List Table) → SameTables ts us → walk start ts x ≤ walk start us x
unfolding EndsAt
walk-below start x ts us alike = elim (walk-ends start ts x) [
  | inl e ↦ (let from : start ≤ walk start us x = walk-from start us x in omega arith)
  | inr e ↦ walk-least start us x (walk start ts x) (e.0) (sym (alike (walk start ts x) (e.0)) ∙ e.1) (e.2)
]

pub walk-alike : (start x : ℕ) (ts us : List Table) → SameTables ts us → walk start ts x ≡ walk start us x
walk-alike start x ts us alike =
    omega (arith, walk-below start x ts us alike, walk-below start x us ts (λ level base. sym (alike level base)))

-- a deeper table in the range is one that is made
pub deeper-made : (ts : List Table) (l base top : ℕ) → deeper ts l base top ≡ true → (j : ℕ) × (b : ℕ) × (made ts j b ≡ true) × (l < j) × (base ≤ b) × (b < top)
deeper-made [] l base top = λ h. absurd (cc)
deeper-made (t ∷ ts) l base top =
    elim (cases_Bool (ltb l t.level && (leb base t.base && ltb t.base top))) [
      | inl k ↦ (λ h. (t.level, t.base, made-here t ts, grind (arith, nat_tests), grind (arith, nat_tests), grind (arith, nat_tests)))
      | inr k ↦ rw k (λ h. (let i = deeper-made ts l base top h in (i.0, i.1, made-there t ts (i.0) (i.1) (i.2), i.3, i.4, i.5)))
    ]

-- and where none is, no deeper one is
pub deeper-none : (ts : List Table) (l base top : ℕ) → ((j b : ℕ) → made ts j b ≡ true → l < j → base ≤ b → b < top → ⊥) → deeper ts l base top ≡ false
deeper-none [] l base top none = refl
deeper-none (t ∷ ts) l base top none =
    let i : deeper ts l base top ≡ false = deeper-none ts l base top (λ j b m. none j b (made-there t ts j b m)) in
    let n : l < t.level → base ≤ t.base → t.base < top → ⊥ = none t.level t.base (made-here t ts) in
    grind (arith, nat_tests)

deeper-below : (ts us : List Table) (l base top : ℕ) → SameTables ts us → deeper ts l base top ≡ true → deeper us l base top ≡ true
deeper-below ts us l base top alike h = elim (cases_Bool (deeper us l base top)) [
  | inl on ↦ on
  | inr off ↦
      let d = deeper-made ts l base top h in
      let m : made us (d.0) (d.1) ≡ true = sym (alike (d.0) (d.1)) ∙ d.2 in
      absurd (made-not us (d.0) (d.1) l base top off m (d.3) (d.4) (d.5))
]
  where
    made-not : (us : List Table) (j b l base top : ℕ) → deeper us l base top ≡ false → made us j b ≡ true → l < j → base ≤ b → b < top → ⊥
    made-not [] j b l base top off = λ m lt lo hi. cc
    made-not (u ∷ us) j b l base top off = λ m lt lo hi.
        (let i : deeper us l base top ≡ false → made us j b ≡ true → ⊥ = λ none there. made-not us j b l base top none there lt lo hi in grind (arith, nat_tests))

pub deeper-alike : (ts us : List Table) (l base top : ℕ) → SameTables ts us → deeper ts l base top ≡ deeper us l base top
deeper-alike ts us l base top alike =
    both-ways (deeper ts l base top) (deeper us l base top) (deeper-below ts us l base top alike) (deeper-below us ts l base top (λ j b. sym (alike j b)))

-- ---- RAM

overlaps-below : (ram other : List (ℕ × ℕ)) (base top : ℕ) → are_some ram ≡ true → ((x : ℕ) → is_ram ram x ≡ is_ram other x) → base < top
    → overlaps ram base top ≡ true → overlaps other base top ≡ true
overlaps-below ram other base top some same lt h =
    let o = overlaps-some ram base top some lt h in
    some-overlaps other base top (o.0) (o.1) (o.2) (sym (same (o.0)) ∙ o.3)

-- ranges with the same addresses meet the same ranges
pub overlaps-same : (ram other : List (ℕ × ℕ)) → are_some ram ≡ true → are_some other ≡ true → ((x : ℕ) → is_ram ram x ≡ is_ram other x)
    → (base top : ℕ) → base < top → overlaps ram base top ≡ overlaps other base top
overlaps-same ram other some some_other same base top lt =
    both-ways (overlaps ram base top) (overlaps other base top) (overlaps-below ram other base top some same lt)
    (overlaps-below other ram base top some_other (λ x. sym (same x)) lt)

-- ---- whole spaces

pub same-refl : (s : Space) → SameSpace s s
same-refl s = record { start = refl; protected_end = refl; tables = λ level base. refl; ram = λ x. refl; ranges = λ base top lt. refl; assigned = λ x. refl }

pub same-sym : (s t : Space) → SameSpace s t → SameSpace t s
same-sym s t same = record {
  start = sym same.start;
  protected_end = sym same.protected_end;
  tables = λ level base. sym (same.tables level base);
  ram = λ x. sym (same.ram x);
  ranges = λ base top lt. sym (same.ranges base top lt);
  assigned = λ x. sym (same.assigned x);
}

pub same-trans : (r s t : Space) → SameSpace r s → SameSpace s t → SameSpace r t
same-trans r s t first second = record {
  start = first.start ∙ second.start;
  protected_end = first.protected_end ∙ second.protected_end;
  tables = λ level base. first.tables level base ∙ second.tables level base;
  ram = λ x. first.ram x ∙ second.ram x;
  ranges = λ base top lt. first.ranges base top lt ∙ second.ranges base top lt;
  assigned = λ x. first.assigned x ∙ second.assigned x;
}

pub walk-same : (s t : Space) (x : ℕ) → SameSpace s t → walk_of s x ≡ walk_of t x
walk-same s t x same = ap (λ start. walk start s.tables x) same.start ∙ walk-alike t.start x s.tables t.tables same.tables

-- ---- steps

pub same-table : (s t : Space) (level base : ℕ) → SameSpace s t → SameSpace (after_table s level base) (after_table t level base)
same-table s t level base same = record {
  start = same.start;
  protected_end = same.protected_end;
  tables = λ j b. made-insert s.tables (record { level = level; base = base }) j b
      ∙ ap (λ old. (eqb level j && eqb base b) || old) (same.tables j b)
      ∙ sym (made-insert t.tables (record { level = level; base = base }) j b);
  ram = same.ram;
  ranges = same.ranges;
  assigned = same.assigned;
}

pub same-run : (s t : Space) (base top : ℕ) → are_some s.ram ≡ true → are_some t.ram ≡ true → base < top → overlaps s.ram base top ≡ false
    → SameSpace s t → SameSpace (after_run s base top) (after_run t base top)
same-run s t base top some some_other lt free same =
    let free_other : overlaps t.ram base top ≡ false = sym (same.ranges base top lt) ∙ free in
    record {
      start = same.start;
      protected_end = same.protected_end;
      tables = same.tables;
      ram = λ x. is_ram-insert s.ram base top x some lt free
          ∙ ap (λ old. (leb base x && ltb x top) || old) (same.ram x)
          ∙ sym (is_ram-insert t.ram base top x some_other lt free_other);
      ranges = λ from to below. overlaps-insert s.ram base top from to some lt free
          ∙ ap (λ old. (ltb base to && ltb from top) || old) (same.ranges from to below)
          ∙ sym (overlaps-insert t.ram base top from to some_other lt free_other);
      assigned = same.assigned;
    }

pub same-page : (s t : Space) (page : ℕ) → SameSpace s t → SameSpace (after_page s page) (after_page t page)
same-page s t page same = record {
  start = same.start;
  protected_end = same.protected_end;
  tables = same.tables;
  ram = same.ram;
  ranges = same.ranges;
  assigned = λ x. has-insert s.assigned page x ∙ ap (λ old. eqb page x || old) (same.assigned x) ∙ sym (has-insert t.assigned page x);
}
