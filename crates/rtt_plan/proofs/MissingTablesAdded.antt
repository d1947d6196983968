-- Adding the tables that a block needs, one at a time.
use Rattle.std.proofs.Common.{◌≡◌, ℕ, suc, ◌+◌, ◌-◌, ◌<◌, ◌≤◌, ◌∙◌, sym, refl, ap, arith, true, false, not, eqb, List, [], ◌∷◌, ◌++◌, map, append_assoc}
use Rattle.std.specs.List.{filter}
use Rattle.std.specs.BTreeSet.{insert_key}
use Rattle.std.proofs.lemmas.Bool.Decides.{nat_tests}
use Rattle.std.proofs.lemmas.List.{append-nil}
use Rattle.rmm_model.specs.Blocks.{down, span}
use Rattle.rmm_model.specs.Space.{SameTables, made, table_cmp}
use Rattle.rmm_model.specs.declared.table.Table.{Table}
use Rattle.rmm_model.proofs.SameSpaces.{append-alike, insert-alike}
use Rattle.rmm_model.proofs.OneMoreInSpace.{made-insert}
use Rattle.rtt_plan.specs.declared.act.Act.{Act}
use Rattle.rtt_plan.specs.Missing.{needed, table_act, missing}

-- the tables that x needs between two levels
abbrev pub missing_between : List Table → ℕ → ℕ → ℕ → List Table
missing_between ts above level x = filter (λ t. not (made ts t.level t.base)) (needed (level - above) above x)

abbrev pub table_at : ℕ → ℕ → Table
table_at level x = record { level = level; base = down (span level) x }

-- How far the adding has come: `old` and `said` are the tables and the acts at its start, and none was added below
-- the level that was reached.
pub record IsAdding (start level x : ℕ) (old : List Table) (said : List Act) (above : ℕ) (tables : List Table) (acts : List Act) : Type 0 where
  pub made_so_far : SameTables (tables ++ missing_between old above level x) (old ++ missing start old level x)
  pub said_so_far : acts ++ map table_act (missing_between old above level x) ≡ said ++ map table_act (missing start old level x)
  pub ahead : (j b : ℕ) → above < j → made tables j b ≡ made old j b

pub adding-start : (start level x : ℕ) (old : List Table) (said : List Act) → IsAdding start level x old said start old said
adding-start start level x old said = record { made_so_far = λ j b. refl; said_so_far = refl; ahead = λ j b lt. refl }

needed-next : (above level x : ℕ) → above < level → needed (level - above) above x ≡ table_at (above + 1) x ∷ needed (level - (above + 1)) (above + 1) x
unfolding needed
needed-next above level x h =
    let e : level - above ≡ suc (level - (above + 1)) = omega arith in
    let f : above + 1 ≡ suc above = omega arith in
    rw (e, f) refl

between-made : (ts : List Table) (above level x : ℕ) → above < level → made ts (above + 1) (down (span (above + 1)) x) ≡ true
    → missing_between ts above level x ≡ missing_between ts (above + 1) level x
between-made ts above level x h there = ap (filter (λ t. not (made ts t.level t.base))) (needed-next above level x h) ∙ rw there refl

between-new : (ts : List Table) (above level x : ℕ) → above < level → made ts (above + 1) (down (span (above + 1)) x) ≡ false
    → missing_between ts above level x ≡ table_at (above + 1) x ∷ missing_between ts (above + 1) level x
between-new ts above level x h out = ap (filter (λ t. not (made ts t.level t.base))) (needed-next above level x h) ∙ rw out refl

between-none : (ts : List Table) (above level x : ℕ) → level ≤ above → missing_between ts above level x ≡ []
unfolding needed
between-none ts above level x h = let e : level - above ≡ 0 = omega arith in rw e refl

-- ---- the steps of the loop

-- the table of the next level was made before
pub adding-made : (start level x : ℕ) (old : List Table) (said : List Act) (above : ℕ) (tables : List Table) (acts : List Act)
    → above < level → made tables (above + 1) (down (span (above + 1)) x) ≡ true → IsAdding start level x old said above tables acts
    → IsAdding start level x old said (above + 1) tables acts
adding-made start level x old said above tables acts h there adding =
    let was : made old (above + 1) (down (span (above + 1)) x) ≡ true = sym (adding.ahead (above + 1) (down (span (above + 1)) x) (omega arith)) ∙ there in
    let next = between-made old above level x h was in
    record {
      made_so_far = rw (← next) adding.made_so_far;
      said_so_far = ap (λ ts. acts ++ map table_act ts) (sym next) ∙ adding.said_so_far;
      ahead = λ j b lt. adding.ahead j b (omega arith);
    }

-- it was not, and is put in its place
pub adding-new : (start level x : ℕ) (old : List Table) (said : List Act) (above : ℕ) (tables : List Table) (acts : List Act)
    → above < level → made tables (above + 1) (down (span (above + 1)) x) ≡ false → IsAdding start level x old said above tables acts
    → IsAdding start level x old said (above + 1) (insert_key table_cmp tables (table_at (above + 1) x)) (acts ++ table_act (table_at (above + 1) x) ∷ [])
adding-new start level x old said above tables acts h out adding =
    let t : Table = table_at (above + 1) x in
    let was : made old (above + 1) (down (span (above + 1)) x) ≡ false = sym (adding.ahead (above + 1) (down (span (above + 1)) x) (omega arith)) ∙ out in
    let rest : List Table = missing_between old (above + 1) level x in
    let next : missing_between old above level x ≡ t ∷ rest = between-new old above level x h was in
    let put : SameTables (insert_key table_cmp tables t) (tables ++ t ∷ []) = insert-alike tables tables t (λ j b. refl) in
    record {
      made_so_far = λ j b. append-alike (insert_key table_cmp tables t) (tables ++ t ∷ []) rest put j b
          ∙ ap (λ ts. made ts j b) (append_assoc tables (t ∷ []) rest ∙ ap (λ ts. tables ++ ts) (sym next)) ∙ adding.made_so_far j b;
      said_so_far = append_assoc acts (table_act t ∷ []) (map table_act rest) ∙ ap (λ ts. acts ++ map table_act ts) (sym next) ∙ adding.said_so_far;
      ahead = λ j b lt. (let e : eqb (above + 1) j ≡ false = grind (arith, nat_tests) in
          made-insert tables t j b ∙ rw e (adding.ahead j b (omega arith)));
    }

-- no level is left
pub adding-end : (start level x : ℕ) (old : List Table) (said : List Act) (above : ℕ) (tables : List Table) (acts : List Act) → level ≤ above
    → IsAdding start level x old said above tables acts
    → SameTables tables (old ++ missing start old level x) × (acts ≡ said ++ map table_act (missing start old level x))
adding-end start level x old said above tables acts h adding =
    let none = between-none old above level x h in (
      λ j b. ap (λ ts. made ts j b) (sym (append-nil tables) ∙ ap (λ ts. tables ++ ts) (sym none)) ∙ adding.made_so_far j b,
      sym (append-nil acts) ∙ ap (λ ts. acts ++ map table_act ts) (sym none) ∙ adding.said_so_far,
    )
