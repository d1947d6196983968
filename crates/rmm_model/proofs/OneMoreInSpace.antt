-- What a space has after one more table, range or page.
use Rattle.std.proofs.Common.{◌≡◌, ℕ, ◌<◌, ◌∙◌, refl, ap, arith, Bool, true, false, ◌&&◌, ◌||◌, leb, ltb, eqb, List, [], ◌∷◌}
use Rattle.std.specs.Prelude.{None}
use Rattle.std.specs.declared.cmp.Ordering.{Ordering}
use Rattle.std.specs.declared.cmp.Ordering.TheVariants.{Less, Equal, Greater}
use Rattle.std.specs.BTreeMap.{insert_entry, is_at}
use Rattle.std.specs.BTreeSet.{insert_key}
use Rattle.std.specs.List.{list_any}
use Rattle.std.specs.Map.{lookup}
use Rattle.std.specs.Ordering.{match_ordering, nat_cmp}
use Rattle.std.proofs.lemmas.Bool.Decides.{nat_tests}
use Rattle.std.proofs.lemmas.Map.Lookups.{CmpEqualImpliesEq, exact_unsigned}
use Rattle.rmm_model.specs.declared.table.Table.{Table}
use Rattle.rmm_model.specs.Space.{are_some, has, is_ram, made, overlaps, table_cmp}
use Rattle.std.proofs.lemmas.Bool.{or_parts}
use Rattle.rmm_model.proofs.TestsThatAgree.{list_any-same}

or-same : (a b : Bool) → (a || b) ≡ (a || (a || b))
or-same true b = refl
or-same false b = refl

pub or-swap : (a b c : Bool) → (a || (b || c)) ≡ (b || (a || c))
or-swap true true c = refl
or-swap true false c = refl
or-swap false b c = refl

-- ---- lists in order, with one more member

pub any-insert : {K : Type 0} (cmp : K → K → Ordering) → CmpEqualImpliesEq cmp → (p : K → Bool) (xs : List K) (k : K)
    → list_any p (insert_key cmp xs k) ≡ p k || list_any p xs
any-insert cmp exact p [] k = refl
any-insert {K} cmp exact p (x ∷ xs) k = placed (any-insert cmp exact p xs k) (cmp k x) refl
  where
    placed : list_any p (insert_key cmp xs k) ≡ p k || list_any p xs → (o : Ordering) → cmp k x ≡ o
        → list_any p (match_ordering o (k ∷ x ∷ xs) (x ∷ xs) (x ∷ insert_key cmp xs k)) ≡ p k || (p x || list_any p xs)
    placed i Less at = refl
    placed i Equal at = rw (exact k x at) (or-same (p x) (list_any p xs))
    placed i Greater at = rw i (or-swap (p x) (p k) (list_any p xs))

pub exact_tables : CmpEqualImpliesEq table_cmp
exact_tables t u same =
    let level : t.level ≡ u.level = grind (arith, nat_tests) in
    let base : t.base ≡ u.base = grind (arith, nat_tests) in
    ap (λ (l : ℕ). let v : Table = record { level = l; base = t.base } in v) level
    ∙ ap (λ (b : ℕ). let v : Table = record { level = u.level; base = b } in v) base

-- ---- tables

pub made-insert : (ts : List Table) (t : Table) (level base : ℕ)
    → made (insert_key table_cmp ts t) level base ≡ (eqb t.level level && eqb t.base base) || made ts level base
made-insert ts t level base = any-insert table_cmp exact_tables (λ u. eqb u.level level && eqb u.base base) ts t

-- the table that an ordered set finds is the one that is made
pub made-contains : (ts : List Table) (t : Table) → list_any (is_at (table_cmp t)) ts ≡ made ts t.level t.base
made-contains ts t = list_any-same (is_at (table_cmp t)) (λ u. eqb u.level t.level && eqb u.base t.base) ts (λ u. grind (arith, nat_tests))

-- ---- pages with data

pub has-insert : (xs : List ℕ) (x y : ℕ) → has (insert_key nat_cmp xs x) y ≡ (eqb x y || has xs y)
has-insert xs x y = any-insert nat_cmp exact_unsigned (λ z. eqb z y) xs x

-- ---- ranges of RAM

pub any-insert_entry : (p : ℕ × ℕ → Bool) (es : List (ℕ × ℕ)) (k v : ℕ) → lookup (is_at (nat_cmp k)) es ≡ None
    → list_any p (insert_entry nat_cmp es k v) ≡ p (k, v) || list_any p es
any-insert_entry p [] k v = λ none. refl
any-insert_entry p (e ∷ es) k v = placed (any-insert_entry p es k v) (nat_cmp k e.0) refl
  where
    placed : (lookup (is_at (nat_cmp k)) es ≡ None → list_any p (insert_entry nat_cmp es k v) ≡ p (k, v) || list_any p es)
        → (o : Ordering) → nat_cmp k e.0 ≡ o → lookup (is_at (nat_cmp k)) (e ∷ es) ≡ None
        → list_any p (match_ordering o ((k, v) ∷ e ∷ es) ((e.0, v) ∷ es) (e ∷ insert_entry nat_cmp es k v)) ≡ p (k, v) || (p e || list_any p es)
    placed i Less at none = refl
    placed i Equal at none = absurd (grind (arith, nat_tests))
    placed i Greater at none =
        let others : lookup (is_at (nat_cmp k)) es ≡ None = grind (arith, nat_tests) in
        rw (i others) (or-swap (p e) (p (k, v)) (list_any p es))

-- where no range meets base to top, none begins at base
pub none-at : (ram : List (ℕ × ℕ)) (base top : ℕ) → are_some ram ≡ true → base < top → overlaps ram base top ≡ false → lookup (is_at (nat_cmp base)) ram ≡ None
none-at [] base top some lt free = refl
none-at (r ∷ rs) base top some lt free =
    let parts = or_parts (ltb r.0 top && ltb base r.1) (overlaps rs base top) free in
    let others : are_some rs ≡ true = grind (arith, nat_tests) in
    let i : lookup (is_at (nat_cmp base)) rs ≡ None = none-at rs base top others lt parts.1 in
    grind (arith, nat_tests)

pub is_ram-insert : (ram : List (ℕ × ℕ)) (base top x : ℕ) → are_some ram ≡ true → base < top → overlaps ram base top ≡ false
    → is_ram (insert_entry nat_cmp ram base top) x ≡ (leb base x && ltb x top) || is_ram ram x
is_ram-insert ram base top x some lt free = any-insert_entry (λ r. leb r.0 x && ltb x r.1) ram base top (none-at ram base top some lt free)

pub overlaps-insert : (ram : List (ℕ × ℕ)) (base top from to : ℕ) → are_some ram ≡ true → base < top → overlaps ram base top ≡ false
    → overlaps (insert_entry nat_cmp ram base top) from to ≡ (ltb base to && ltb from top) || overlaps ram from to
overlaps-insert ram base top from to some lt free = any-insert_entry (λ r. ltb r.0 to && ltb from r.1) ram base top (none-at ram base top some lt free)

pub are_some-insert : (ram : List (ℕ × ℕ)) (base top : ℕ) → are_some ram ≡ true → base < top → are_some (insert_entry nat_cmp ram base top) ≡ true
are_some-insert [] base top some lt = grind (arith, nat_tests)
are_some-insert (r ∷ rs) base top some lt =
    let others : are_some rs ≡ true = grind (arith, nat_tests) in
    let i : are_some (insert_entry nat_cmp rs base top) ≡ true = are_some-insert rs base top others lt in
    grind (arith, nat_tests)
