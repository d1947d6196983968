-- Tables that were made are taken back, the last first.
use Rattle.std.proofs.Common.{◌≡◌, ℕ, ◌∙◌, refl, ap, arith, Bool, true, false, List, [], ◌∷◌, ◌++◌, length}
use Rattle.std.specs.declared.cmp.Ordering.{Ordering}
use Rattle.std.specs.declared.cmp.Ordering.TheVariants.{Less, Equal, Greater}
use Rattle.std.specs.BTreeMap.{is_at}
use Rattle.std.specs.BTreeSet.{insert_key}
use Rattle.std.specs.List.{list_any}
use Rattle.std.specs.Ordering.{match_ordering}
use Rattle.std.specs.Set.{remove_key}
use Rattle.std.proofs.lemmas.Bool.{or_parts}
use Rattle.std.proofs.lemmas.Bool.Decides.{nat_tests}
use Rattle.rmm_model.specs.Space.{made, table_cmp}
use Rattle.rmm_model.specs.declared.table.Table.{Table}
use Rattle.rmm_model.proofs.OneMoreInSpace.{made-contains}
use Rattle.rtt_plan.specs.declared.act.Act.{Act}
use Rattle.rtt_plan.specs.declared.act.Act.TheVariants as act
use Rattle.rtt_plan.specs.Missing.{table_act}
use Rattle.rtt_plan.specs.inside.Undone.{undone, without}

-- a key that is not there
without-none : {K : Type 0} (test : K → Bool) (ks : List K) → list_any test ks ≡ false → remove_key test ks ≡ ks
without-none test [] none = refl
without-none test (k ∷ ks) none =
    let parts = or_parts (test k) (list_any test ks) none in
    rw parts.0 (ap (λ rest. k ∷ rest) (without-none test ks parts.1))

-- a key that was put in its place
without-new : {K : Type 0} (cmp : K → K → Ordering) (k : K) (ks : List K) → cmp k k ≡ Equal → list_any (is_at (cmp k)) ks ≡ false
    → remove_key (is_at (cmp k)) (insert_key cmp ks k) ≡ ks
without-new cmp k [] self none = rw self refl
without-new {K} cmp k (x ∷ xs) self none =
    let parts = or_parts (is_at (cmp k) x) (list_any (is_at (cmp k)) xs) none in
    placed (cmp k x) refl parts.0 (without-new cmp k xs self parts.1)
  where
    placed : (o : Ordering) → cmp k x ≡ o → is_at (cmp k) x ≡ false → remove_key (is_at (cmp k)) (insert_key cmp xs k) ≡ xs
        → remove_key (is_at (cmp k)) (match_ordering o (k ∷ x ∷ xs) (x ∷ xs) (x ∷ insert_key cmp xs k)) ≡ x ∷ xs
    placed Less at other i = rw self refl
    placed Equal at other i = absurd (let h : is_at (cmp k) x ≡ true = rw at refl in cc)
    placed Greater at other i = rw other (ap (λ rest. x ∷ rest) i)

table-itself : (t : Table) → table_cmp t t ≡ Equal
table-itself t = grind (arith, nat_tests)

pub table-none : (t : Table) (ts : List Table) → made ts t.level t.base ≡ false → without t ts ≡ ts
table-none t ts none = without-none (is_at (table_cmp t)) ts (made-contains ts t ∙ none)

pub table-new : (t : Table) (ts : List Table) → made ts t.level t.base ≡ false → without t (insert_key table_cmp ts t) ≡ ts
table-new t ts none = without-new table_cmp t ts (table-itself t) (made-contains ts t ∙ none)

-- the last act is taken back first
pub undone-last : (acts : List Act) (a : Act) (ts : List Table) → undone (acts ++ a ∷ []) ts ≡ undone acts (undone (a ∷ []) ts)
unfolding undone
undone-last [] a ts = refl
undone-last (act.Table base level ∷ acts) a ts = ap (without (record { level = level; base = base })) (undone-last acts a ts)
undone-last (act.Run base top level ∷ acts) a ts = undone-last acts a ts
undone-last (act.Pages base count ∷ acts) a ts = undone-last acts a ts

pub undone-run : (acts : List Act) (base top level : ℕ) (ts : List Table) → undone (acts ++ act.Run base top level ∷ []) ts ≡ undone acts ts
unfolding undone
undone-run acts base top level ts = undone-last acts (act.Run base top level) ts

pub undone-pages : (acts : List Act) (base count : ℕ) (ts : List Table) → undone (acts ++ act.Pages base count ∷ []) ts ≡ undone acts ts
unfolding undone
undone-pages acts base count ts = undone-last acts (act.Pages base count) ts

pub undone-table : (acts : List Act) (base level : ℕ) (ts : List Table)
    → undone (acts ++ act.Table base level ∷ []) ts ≡ undone acts (without (record { level = level; base = base }) ts)
unfolding undone
undone-table acts base level ts = undone-last acts (act.Table base level) ts

-- a table that is said and not yet made
pub undone-said : (acts : List Act) (t : Table) (ts : List Table) → made ts t.level t.base ≡ false → undone (acts ++ table_act t ∷ []) ts ≡ undone acts ts
undone-said acts t ts none = undone-table acts t.base t.level ts ∙ ap (undone acts) (table-none t ts none)

-- a table that is said and made
pub undone-made : (acts : List Act) (t : Table) (ts : List Table) → made ts t.level t.base ≡ false
    → undone (acts ++ table_act t ∷ []) (insert_key table_cmp ts t) ≡ undone acts ts
undone-made acts t ts none = undone-table acts t.base t.level (insert_key table_cmp ts t) ∙ ap (undone acts) (table-new t ts none)

-- an act that makes no table
pub undone-other : (acts : List Act) (a : Act) (ts : List Table) → ((base level : ℕ) → a ≡ act.Table base level → ⊥) → undone (acts ++ a ∷ []) ts ≡ undone acts ts
undone-other acts (act.Table base level) ts other = absurd (other base level refl)
undone-other acts (act.Run base top level) ts other = undone-run acts base top level ts
undone-other acts (act.Pages base count) ts other = undone-pages acts base count ts

pub undone-none : (acts : List Act) (ts : List Table) → length acts ≡ 0 → undone acts ts ≡ ts
unfolding undone
undone-none [] ts none = refl
undone-none (a ∷ acts) ts none = absurd (omega arith)
