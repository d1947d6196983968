-- Whether a range meets one of several ranges in order, by the last of those that begin before its end.
use Rattle.std.proofs.Common.{inl, inr, ◌≡◌, ℕ, ◌<◌, ◌≤◌, ◌∙◌, sym, refl, arith, Bool, true, false, ◌&&◌, ltb, List, [], ◌∷◌, ◌++◌, ◌⊎◌, ◌+◌}
use Rattle.std.specs.Prelude.{Option, Some, None}
use Rattle.std.specs.BTreeMap.{insert_entry}
use Rattle.std.specs.List.{filter, list_all, list_any}
use Rattle.std.specs.Ordering.{nat_cmp}
use Rattle.std.specs.Map.Iter.{TakesLast}
use Rattle.std.proofs.lemmas.Bool.Decides.{nat_tests}
use Rattle.rmm_model.specs.Space.{are_some, overlaps}
use Rattle.std.proofs.Math.Bool.{or-false, or-true}
use Rattle.std.proofs.lemmas.List.Folds.{list_any-append}
use Rattle.rmm_model.proofs.TestsThatAgree.{filter-same}
use Rattle.std.proofs.lemmas.Bool.{and_parts, cases_Bool, or_parts}
use Rattle.std.specs.BTreeMap.Range.{range_contains}
use Rattle.std.specs.declared.ops.Bound.TheVariants.{Included, Unbounded}
use Rattle.rmm_model.specs.Apart.{are_apart}

-- none is below
overlaps-none : (ram : List (ℕ × ℕ)) (base top : ℕ) → filter (λ (r : ℕ × ℕ). ltb r.0 top) ram ≡ [] → overlaps ram base top ≡ false
overlaps-none [] base top = λ h. refl
overlaps-none (r ∷ rs) base top = elim (cases_Bool (ltb r.0 top)) [ inl t ↦ rw t (λ h. absurd (cc)) | inr f ↦ rw f (λ h. overlaps-none rs base top h) ]

no-end : (front : List (ℕ × ℕ)) (e : ℕ × ℕ) → [] ≡ front ++ e ∷ [] → ⊥
no-end [] e h = cc
no-end (f ∷ front) e h = cc

-- the first of a list with a last
first-or-last : (r e : ℕ × ℕ) (xs front : List (ℕ × ℕ)) → r ∷ xs ≡ front ++ e ∷ []
    → ((xs ≡ []) × (r ≡ e)) ⊎ ((rest : List (ℕ × ℕ)) × (xs ≡ rest ++ e ∷ []))
first-or-last r e xs [] h = inl (cc, cc)
first-or-last r e xs (f ∷ front) h = inr (front, cc)

-- what are_apart says of the first range
apart-parts : (r : ℕ × ℕ) (rs : List (ℕ × ℕ)) (low : ℕ) → are_apart low (r ∷ rs) ≡ true → (low ≤ r.0) × (r.0 < r.1) × (are_apart r.1 rs ≡ true)
unfolding are_apart
apart-parts r rs low apart = (grind (arith, nat_tests), grind (arith, nat_tests), grind arith)

-- the last below decides: it ends last
overlaps-last : (ram : List (ℕ × ℕ)) (low base top : ℕ) (front : List (ℕ × ℕ)) (e : ℕ × ℕ) → are_apart low ram ≡ true
    → filter (λ (r : ℕ × ℕ). ltb r.0 top) ram ≡ front ++ e ∷ [] → (overlaps ram base top ≡ ltb base e.1) × (low ≤ e.1)
unfolding are_apart
overlaps-last [] low base top front e apart = λ h. absurd (no-end front e h)
overlaps-last (r ∷ rs) low base top front e apart =
    let parts = apart-parts r rs low apart in
    let from : low ≤ r.0 = parts.0 in
    let some : r.0 < r.1 = parts.1 in
    let others : are_apart r.1 rs ≡ true = parts.2 in
    elim (cases_Bool (ltb r.0 top)) [
      | inl t ↦ rw t (λ h. elim (first-or-last r e (filter (λ (r : ℕ × ℕ). ltb r.0 top) rs) front h) [
        | inl last ↦
            let none : overlaps rs base top ≡ false = overlaps-none rs base top last.0 in
            rw (← last.1) (rw none (or-false (ltb base r.1)), omega arith)
        | inr more ↦
            let i = overlaps-last rs r.1 base top more.0 e others more.1 in
            let same : overlaps rs base top ≡ ltb base e.1 = i.0 in
            let past : r.1 ≤ e.1 = i.1 in
            (grind (arith, nat_tests), omega arith)
      ])
      | inr f ↦ rw f (λ h. (let i = overlaps-last rs r.1 base top front e others h in (i.0, let past : r.1 ≤ e.1 = i.1 in omega arith)))
    ]

-- whether a range meets others, which are in order, by the last of those that begin before its top
pub last-meets : {A : Type 0} (shows : A → ℕ × ℕ) (p : ℕ × ℕ → Bool) (ram s t : List (ℕ × ℕ)) (r : Option A) (x : A) (base top : ℕ) → are_apart 0 ram ≡ true
    → ((e : ℕ × ℕ) → p e ≡ ltb e.0 top) → s ≡ filter p ram → r ≡ Some x → TakesLast shows s r t → ltb base ((shows x).1) ≡ overlaps ram base top
last-meets shows p ram s t r x base top apart same is some taken =
    let at : TakesLast shows s (Some x) t = rw some at taken in
    sym (overlaps-last ram 0 base top t (shows x) apart (sym (filter-same p (λ (e : ℕ × ℕ). ltb e.0 top) ram same) ∙ sym is ∙ at)).0

pub none-meets : {A : Type 0} (shows : A → ℕ × ℕ) (p : ℕ × ℕ → Bool) (ram s t : List (ℕ × ℕ)) (r : Option A) (base top : ℕ)
    → ((e : ℕ × ℕ) → p e ≡ ltb e.0 top) → s ≡ filter p ram → r ≡ None → TakesLast shows s r t → false ≡ overlaps ram base top
none-meets shows p ram s t r base top same is none taken =
    let at : TakesLast shows s None t = rw none at taken in
    sym (overlaps-none ram base top (sym (filter-same p (λ (e : ℕ × ℕ). ltb e.0 top) ram same) ∙ sym is ∙ at.0))

-- the last of those that begin before a top is one of the ranges
filtered : (q p : ℕ × ℕ → Bool) (ram : List (ℕ × ℕ)) → list_any p (filter q ram) ≡ true → list_any p ram ≡ true
filtered q p [] = λ h. h
filtered q p (r ∷ rs) = elim (cases_Bool (q r)) [
  | inl t ↦ rw t (λ h. (let i : list_any p (filter q rs) ≡ true → list_any p rs ≡ true = filtered q p rs in grind arith))
  | inr f ↦ rw f (λ h. (let i : list_any p rs ≡ true = filtered q p rs h in grind arith))
]

filtered-all : (q p : ℕ × ℕ → Bool) (ram : List (ℕ × ℕ)) → list_all p ram ≡ true → list_all p (filter q ram) ≡ true
filtered-all q p [] = λ h. h
filtered-all q p (r ∷ rs) = λ h. (let parts = and_parts (p r) (list_all p rs) h in
    let i : list_all p (filter q rs) ≡ true = filtered-all q p rs parts.1 in
    elim (cases_Bool (q r)) [ inl t ↦ rw (t, parts.0) i | inr f ↦ rw f i ])

passes : (q : ℕ × ℕ → Bool) (ram : List (ℕ × ℕ)) → list_all q (filter q ram) ≡ true
passes q [] = refl
passes q (r ∷ rs) = elim (cases_Bool (q r)) [ inl t ↦ rw (t, t) (passes q rs) | inr f ↦ rw f (passes q rs) ]

all-last : (p : ℕ × ℕ → Bool) (front : List (ℕ × ℕ)) (e : ℕ × ℕ) → list_all p (front ++ e ∷ []) ≡ true → p e ≡ true
all-last p [] e h = (and_parts (p e) true h).0
all-last p (f ∷ front) e h = all-last p front e (and_parts (p f) (list_all p (front ++ e ∷ [])) h).1

any-last : (p : ℕ × ℕ → Bool) (front : List (ℕ × ℕ)) (e : ℕ × ℕ) → p e ≡ true → list_any p (front ++ e ∷ []) ≡ true
any-last p front e h = list_any-append p front (e ∷ []) ∙ rw h (or-true (list_any p front))

pub last-any : {A : Type 0} (shows : A → ℕ × ℕ) (q p : ℕ × ℕ → Bool) (ram s t : List (ℕ × ℕ)) (r : Option A) (x : A)
    → s ≡ filter q ram → r ≡ Some x → TakesLast shows s r t → p (shows x) ≡ true → list_any p ram ≡ true
last-any shows q p ram s t r x is some taken test =
    let at : TakesLast shows s (Some x) t = rw some at taken in
    let parts : filter q ram ≡ t ++ shows x ∷ [] = sym is ∙ at in
    filtered q p ram (rw parts (any-last p t (shows x) test))

pub last-all : {A : Type 0} (shows : A → ℕ × ℕ) (q p : ℕ × ℕ → Bool) (ram s t : List (ℕ × ℕ)) (r : Option A) (x : A)
    → s ≡ filter q ram → r ≡ Some x → TakesLast shows s r t → list_all p ram ≡ true → p (shows x) ≡ true
last-all shows q p ram s t r x is some taken all =
    let at : TakesLast shows s (Some x) t = rw some at taken in
    let parts : filter q ram ≡ t ++ shows x ∷ [] = sym is ∙ at in
    all-last p t (shows x) (rw parts at (filtered-all q p ram all))

pub last-passes : {A : Type 0} (shows : A → ℕ × ℕ) (q : ℕ × ℕ → Bool) (ram s t : List (ℕ × ℕ)) (r : Option A) (x : A)
    → s ≡ filter q ram → r ≡ Some x → TakesLast shows s r t → q (shows x) ≡ true
last-passes shows q ram s t r x is some taken =
    let at : TakesLast shows s (Some x) t = rw some at taken in
    let parts : filter q ram ≡ t ++ shows x ∷ [] = sym is ∙ at in
    all-last q t (shows x) (rw parts at (passes q ram))

-- ranges in order stay so with one more that meets none
pub apart-insert : (ram : List (ℕ × ℕ)) (low base top : ℕ) → are_apart low ram ≡ true → low ≤ base → base < top → overlaps ram base top ≡ false
    → are_apart low (insert_entry nat_cmp ram base top) ≡ true
unfolding are_apart
apart-insert [] low base top apart from some = λ free. grind (arith, nat_tests)
apart-insert (r ∷ rs) low base top apart from some =
    let whole = apart-parts r rs low apart in
    let some_here : r.0 < r.1 = whole.1 in
    let low_here : low ≤ r.0 = whole.0 in
    let others : are_apart r.1 rs ≡ true = whole.2 in
    λ free. (let parts = or_parts (ltb r.0 top && ltb base r.1) (overlaps rs base top) free in
    let i : r.1 ≤ base → are_apart r.1 (insert_entry nat_cmp rs base top) ≡ true = λ le. apart-insert rs r.1 base top others le some parts.1 in
    grind (arith, nat_tests))

-- ranges in order have an address each
pub apart-some : (ram : List (ℕ × ℕ)) (low : ℕ) → are_apart low ram ≡ true → are_some ram ≡ true
unfolding are_apart
apart-some [] low apart = refl
apart-some (r ∷ rs) low apart =
    let parts = apart-parts r rs low apart in
    let some : r.0 < r.1 = parts.1 in
    let i : are_some rs ≡ true = apart-some rs r.1 (parts.2) in
    grind (arith, nat_tests)

-- ---- the test of a range up to an address

pub begins-up_to : (last : ℕ) (e : ℕ × ℕ) → range_contains nat_cmp Unbounded (Included last) e.0 ≡ ltb e.0 (last + 1)
begins-up_to last e = grind (arith, nat_tests)
