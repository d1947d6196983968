-- What a space has, where its tables, ranges or pages are two lists, one after the other.
use Rattle.std.proofs.Common.{◌≡◌, ℕ, ◌∙◌, sym, refl, true, ◌&&◌, ◌||◌, leb, ltb, eqb, List, ◌++◌, ◌⊎◌}
use Rattle.std.proofs.Math.Bool.{or-true}
use Rattle.std.proofs.lemmas.Bool.{or_cases}
use Rattle.std.proofs.lemmas.List.Folds.{list_any-append}
use Rattle.rmm_model.specs.declared.table.Table.{Table}
use Rattle.rmm_model.specs.Space.{has, is_ram, made, overlaps}

-- ---- tables

pub made-append : (ts us : List Table) (j b : ℕ) → made (ts ++ us) j b ≡ (made ts j b || made us j b)
made-append ts us j b = list_any-append (λ t. eqb t.level j && eqb t.base b) ts us

pub made-front : (ts us : List Table) (j b : ℕ) → made ts j b ≡ true → made (ts ++ us) j b ≡ true
made-front ts us j b m = rw (made-append ts us j b, m) refl

pub made-back : (ts us : List Table) (j b : ℕ) → made us j b ≡ true → made (ts ++ us) j b ≡ true
made-back ts us j b m = rw (made-append ts us j b, m) (or-true (made ts j b))

pub made-both : (ts us : List Table) (j b : ℕ) → made (ts ++ us) j b ≡ true → (made ts j b ≡ true) ⊎ (made us j b ≡ true)
made-both ts us j b m = or_cases (made ts j b) (made us j b) (sym (made-append ts us j b) ∙ m)

-- ---- ranges of RAM

pub ram-append : (rs more : List (ℕ × ℕ)) (x : ℕ) → is_ram (rs ++ more) x ≡ (is_ram rs x || is_ram more x)
ram-append rs more x = list_any-append (λ r. leb r.0 x && ltb x r.1) rs more

pub overlaps-append : (rs more : List (ℕ × ℕ)) (from to : ℕ) → overlaps (rs ++ more) from to ≡ (overlaps rs from to || overlaps more from to)
overlaps-append rs more from to = list_any-append (λ r. ltb r.0 to && ltb from r.1) rs more

-- ---- pages with data

pub has-append : (xs ys : List ℕ) (x : ℕ) → has (xs ++ ys) x ≡ (has xs x || has ys x)
has-append xs ys x = list_any-append (λ y. eqb y x) xs ys
