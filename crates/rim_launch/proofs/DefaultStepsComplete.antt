-- The steps of a launch that names none are complete.
use Rattle.std.proofs.Common.{◌≡◌, ℕ, zero, suc, ◌+◌, ◌<◌, ◌≤◌, Bool, true, false, cond, eqb, List, [], ◌∷◌, ◌++◌, length, map, refl, ap, subst, ◌∙◌, arith}
use Rattle.std.specs.Prelude.{◌==◌, ◌&&◌, nat_lt, filter}
use Rattle.std.specs.List.{enumerate_from, list_all, range_with_len}
use Rattle.std.proofs.lemmas.Bool.{eq-eqb, eqb-false, eqb-true, lt-ltb, ne_eqb}
use Rattle.std.proofs.lemmas.List.Sums.{sum_by-append}
use Rattle.rim_launch.specs.declared.item.Item.{Item}
use Rattle.rim_launch.specs.declared.item.ItemKind.{ItemKind}
use Rattle.rim_launch.specs.declared.item.ItemKind.TheVariants.{Kernel, Initrd, Dtb, Raw, Unknown}
use Rattle.rim_launch.specs.declared.step.Step.{Step}
use Rattle.rim_launch.specs.declared.step.Step.TheVariants as step
use Rattle.rim_launch.specs.declared.conditions.StepTarget.{StepTarget}
use Rattle.rim_launch.specs.declared.conditions.StepTarget.TheVariants as target
use Rattle.rim_launch.specs.declared.item.Role.{Role}
use Rattle.rim_launch.specs.declared.item.Role.TheVariants as role
use Rattle.rim_launch.specs.Kinds.{has_role, is_role, role_of}
use Rattle.rim_launch.specs.Steps.{names, names_something, times, each_once, steps_complete, default_steps}

times-append : (p : StepTarget) (k : ℕ) (xs ys : List Step) → times p k (xs ++ ys) ≡ times p k xs + times p k ys
times-append p k xs ys = sum_by-append (λ x. cond (names p k x) 1 0) xs ys

-- a test of all numbers, which each passes
all-pass : (t : ℕ → Bool) (a n : ℕ) → ((k : ℕ) → k < a + n → t k ≡ true) → list_all t (range_with_len a n) ≡ true
all-pass t a zero h = refl
all-pass t a (suc n) h =
    let first : t a ≡ true = h a (omega arith) in
    rw first (all-pass t (a + 1) n (λ k low. h k (omega arith)))

times-next : (p : StepTarget) (k : ℕ) (x : Step) (xs : List Step) (b : Bool) → names p k x ≡ b → times p k (x ∷ xs) ≡ cond b 1 0 + times p k xs
times-next p k x xs b e =
    let first = sum_by-append (λ y. cond (names p k y) 1 0) (x ∷ []) xs in
    let counts : cond {A = ℕ} (names p k x) 1 0 ≡ cond {A = ℕ} b 1 0 = ap (λ (c : Bool). cond c 1 0) e in
    omega (arith, first, counts)

-- ---- steps of a row of numbers

module _ (make : ℕ → Step) (p : StepTarget) (own : (n k : ℕ) → names p k (make n) ≡ (n == k)) where
  row-none : (a n k : ℕ) → k < a → times p k (map make (range_with_len a n)) ≡ 0
  row-none a zero k lt = refl
  row-none a (suc n) k lt =
      let no_more : names p k (make a) ≡ false = own a k ∙ ne_eqb a k (λ same. omega (arith, same)) in
      omega (arith, times-next p k (make a) (map make (range_with_len (a + 1) n)) false no_more, row-none (a + 1) n k (omega arith))

  row-once : (a n k : ℕ) → a ≤ k → k < a + n → times p k (map make (range_with_len a n)) ≡ 1
  row-once a zero k low high = absurd (omega arith)
  row-once a (suc n) k low high = go (eqb a k) refl (λ above. row-once (a + 1) n k above (omega arith))
    where
      go : (b : Bool) → eqb a k ≡ b → (a + 1 ≤ k → times p k (map make (range_with_len (a + 1) n)) ≡ 1) → times p k (map make (range_with_len a (suc n))) ≡ 1
      go true e rest = omega (arith, times-next p k (make a) (map make (range_with_len (a + 1) n)) true (own a k ∙ e), row-none (a + 1) n k (omega (arith, eqb-true a k e)))
      go false e rest = omega (arith, times-next p k (make a) (map make (range_with_len (a + 1) n)) false (own a k ∙ e), rest (omega (arith, eqb-false a k e)))

-- steps of another part
module _ (make : ℕ → Step) (p : StepTarget) (other : (n k : ℕ) → names p k (make n) ≡ false) where
  row-other : (a n k : ℕ) → times p k (map make (range_with_len a n)) ≡ 0
  row-other a zero k = refl
  row-other a (suc n) k = omega (arith, times-next p k (make a) (map make (range_with_len (a + 1) n)) false (other a k), row-other (a + 1) n k)

-- each names something
row-there : (make : ℕ → Step) (num_regions items num_recs count : ℕ) → ((n : ℕ) → n < count → names_something num_regions items num_recs (make n) ≡ true) → (a n : ℕ) → a + n ≤ count
    → list_all (names_something num_regions items num_recs) (map make (range_with_len a n)) ≡ true
row-there make num_regions items num_recs count h a zero fits = refl
row-there make num_regions items num_recs count h a (suc n) fits =
    let first : names_something num_regions items num_recs (make a) ≡ true = h a (omega arith) in
    rw first (row-there make num_regions items num_recs count h (a + 1) n (omega arith))

-- ---- steps of items

-- those of a role, where the first item has this number
from : Role → ℕ → List Item → List Step
from r a items = map (λ (p : ℕ × Item). step.Item p.0) (filter (λ (p : ℕ × Item). has_role r p.1) (enumerate_from a items))

from-next : (r : Role) (a : ℕ) (i : Item) (items : List Item) (P : List Step → Type 0) → (has_role r i ≡ true → P (step.Item a ∷ from r (a + 1) items)) → (has_role r i ≡ false → P (from r (a + 1) items))
    → P (from r a (i ∷ items))
unfolding from
from-next r a i items P taken left = go (has_role r i) refl
  where
    go : (b : Bool) → has_role r i ≡ b → P (map (λ (p : ℕ × Item). step.Item p.0) (cond b ((a, i) ∷ filter (λ (p : ℕ × Item). has_role r p.1) (enumerate_from (a + 1) items)) (filter (λ (p : ℕ × Item). has_role r p.1) (enumerate_from (a + 1) items))))
    go true e = taken e
    go false e = left e

items-other : (p : StepTarget) (other : (n k : ℕ) → names p k (step.Item n) ≡ false) (r : Role) (a k : ℕ) (items : List Item) → times p k (from r a items) ≡ 0
unfolding from
items-other p other r a k [] = refl
items-other p other r a k (i ∷ items) =
    let rest = items-other p other r (a + 1) k items in
    from-next r a i items (λ (steps : List Step). times p k steps ≡ 0) (λ e. omega (arith, times-next p k (step.Item a) (from r (a + 1) items) false (other a k), rest)) (λ e. rest)

items-none : (r : Role) (a k : ℕ) (items : List Item) → k < a → times target.Item k (from r a items) ≡ 0
unfolding from
items-none r a k [] lt = refl
items-none r a k (i ∷ items) lt =
    let rest = items-none r (a + 1) k items (omega arith) in
    let past : (a == k) ≡ false = ne_eqb a k (λ same. omega (arith, same)) in
    from-next r a i items (λ (steps : List Step). times target.Item k steps ≡ 0) (λ e. omega (arith, times-next target.Item k (step.Item a) (from r (a + 1) items) false past, rest)) (λ e. rest)

-- the first item counts where it has the role
items-first : (r : Role) (a : ℕ) (i : Item) (items : List Item) → times target.Item a (from r a (i ∷ items)) ≡ cond (has_role r i) 1 0
items-first r a i items =
    let rest = items-none r (a + 1) a items (omega arith) in
    from-next r a i items (λ (steps : List Step). times target.Item a steps ≡ cond (has_role r i) 1 0)
    (λ e. rw e (omega (arith, times-next target.Item a (step.Item a) (from r (a + 1) items) true (eq-eqb a a refl), rest))) (λ e. rw e rest)

-- it does not count at another number
items-later : (r : Role) (a k : ℕ) (i : Item) (items : List Item) → eqb a k ≡ false → times target.Item k (from r a (i ∷ items)) ≡ times target.Item k (from r (a + 1) items)
items-later r a k i items other =
    from-next r a i items (λ (steps : List Step). times target.Item k steps ≡ times target.Item k (from r (a + 1) items)) (λ e. omega (arith, times-next target.Item k (step.Item a) (from r (a + 1) items) false other)) (λ e. refl)

-- an item has exactly one role
one-role : (k : ItemKind) → cond (is_role role.Kernel (role_of k)) 1 0 + cond (is_role role.Initrd (role_of k)) 1 0 + cond (is_role role.Dtb (role_of k)) 1 0 + cond (is_role role.Raw (role_of k)) 1 0 + cond (is_role role.Unknown (role_of k)) 1 0 ≡ 1
one-role (Kernel file) = refl
one-role (Initrd file) = refl
one-role (Dtb file edits) = refl
one-role (Raw file) = refl
one-role Unknown = refl

counted : ℕ → ℕ → List Item → ℕ
counted k a items = times target.Item k (from role.Kernel a items) + times target.Item k (from role.Initrd a items) + times target.Item k (from role.Dtb a items) + times target.Item k (from role.Raw a items) + times target.Item k (from role.Unknown a items)

items-once : (a k : ℕ) (items : List Item) → a ≤ k → k < a + length items → counted k a items ≡ 1
unfolding counted
items-once a k [] low high = absurd (omega arith)
items-once a k (i ∷ items) low high = go (eqb a k) refl (λ above. items-once (a + 1) k items above (omega arith))
  where
    go : (b : Bool) → eqb a k ≡ b → (a + 1 ≤ k → counted k (a + 1) items ≡ 1) → counted k a (i ∷ items) ≡ 1
    go true e rest =
        subst (λ (m : ℕ). counted m a (i ∷ items) ≡ 1) (eqb-true a k e)
        (omega (arith, items-first role.Kernel a i items, items-first role.Initrd a i items, items-first role.Dtb a i items, items-first role.Raw a i items, items-first role.Unknown a i items, one-role i.kind))
    go false e rest =
        omega (arith, items-later role.Kernel a k i items e, items-later role.Initrd a k i items e, items-later role.Dtb a k i items e, items-later role.Raw a k i items e, items-later role.Unknown a k i items e, rest (omega (arith, eqb-false a k e)))

items-there : (r : Role) (num_regions count num_recs a : ℕ) (items : List Item) → a + length items ≤ count → list_all (names_something num_regions count num_recs) (from r a items) ≡ true
unfolding from
items-there r num_regions count num_recs a [] fits = refl
items-there r num_regions count num_recs a (i ∷ items) fits =
    let rest = items-there r num_regions count num_recs (a + 1) items (omega arith) in
    let first : nat_lt a count ≡ true = lt-ltb a count (omega arith) in
    from-next r a i items (λ (steps : List Step). list_all (names_something num_regions count num_recs) steps ≡ true) (λ e. rw first rest) (λ e. rest)

-- ---- all of them

module _ (num_regions : ℕ) (items : List Item) (num_recs : ℕ) where
  ram : List Step
  ram = map step.Ram (range_with_len 0 num_regions)

  made : List Step
  made = map step.Rec (range_with_len 0 num_recs)

  all-append : (t : Step → Bool) (xs ys : List Step) → list_all t xs ≡ true → list_all t ys ≡ true → list_all t (xs ++ ys) ≡ true
  all-append t [] ys h k = k
  all-append t (x ∷ xs) ys h k = go (t x) refl h (λ rest. all-append t xs ys rest k)
    where
      go : (b : Bool) → t x ≡ b → (b && list_all t xs) ≡ true → (list_all t xs ≡ true → list_all t (xs ++ ys) ≡ true) → (t x && list_all t (xs ++ ys)) ≡ true
      go true e all rest = rw e (rest all)
      go false e all rest = absurd (let z : false ≡ true = all in let y : ⊥ = cc in y)

  split : (p : StepTarget) (k : ℕ) → times p k (default_steps num_regions items num_recs)
      ≡ times p k ram + (times p k (from role.Kernel 0 items) + times p k (from role.Initrd 0 items) + times p k (from role.Dtb 0 items) + times p k (from role.Raw 0 items) + times p k (from role.Unknown 0 items)) + times p k made
  unfolding default_steps from ram made
  split p k =
      let a = from role.Kernel 0 items in
      let b = from role.Initrd 0 items in
      let c = from role.Dtb 0 items in
      let d = from role.Raw 0 items in
      let e = from role.Unknown 0 items in
      omega (arith, times-append p k (ram ++ a ++ b ++ c ++ d ++ e) made, times-append p k (ram ++ a ++ b ++ c ++ d) e, times-append p k (ram ++ a ++ b ++ c) d, times-append p k (ram ++ a ++ b) c, times-append p k (ram ++ a) b, times-append p k ram a)

  there : list_all (names_something num_regions (length items) num_recs) (default_steps num_regions items num_recs) ≡ true
  unfolding default_steps from ram made
  there =
      let t : Step → Bool = names_something num_regions (length items) num_recs in
      let a = from role.Kernel 0 items in
      let b = from role.Initrd 0 items in
      let c = from role.Dtb 0 items in
      let d = from role.Raw 0 items in
      let e = from role.Unknown 0 items in
      let of_ram : list_all t ram ≡ true = row-there (λ n. step.Ram n) num_regions (length items) num_recs num_regions (λ n lt. lt-ltb n num_regions lt) 0 num_regions (omega arith) in
      let of_recs : list_all t made ≡ true = row-there (λ n. step.Rec n) num_regions (length items) num_recs num_recs (λ n lt. lt-ltb n num_recs lt) 0 num_recs (omega arith) in
      let of_a = items-there role.Kernel num_regions (length items) num_recs 0 items (omega arith) in
      let of_b = items-there role.Initrd num_regions (length items) num_recs 0 items (omega arith) in
      let of_c = items-there role.Dtb num_regions (length items) num_recs 0 items (omega arith) in
      let of_d = items-there role.Raw num_regions (length items) num_recs 0 items (omega arith) in
      let of_e = items-there role.Unknown num_regions (length items) num_recs 0 items (omega arith) in
      all-append t (ram ++ a ++ b ++ c ++ d ++ e) made (all-append t (ram ++ a ++ b ++ c ++ d) e (all-append t (ram ++ a ++ b ++ c) d (all-append t (ram ++ a ++ b) c (all-append t (ram ++ a) b (all-append t ram a of_ram of_a) of_b) of_c) of_d) of_e) of_recs

  -- each part by itself
  ram-once : (k : ℕ) → k < num_regions → times target.Ram k (default_steps num_regions items num_recs) ≡ 1
  unfolding ram made
  ram-once k low =
      let own = row-once (λ n. step.Ram n) target.Ram (λ n k. refl) 0 num_regions k (omega arith) (omega arith) in
      let other = items-other target.Ram (λ n k. refl) in
      let recs_none = row-other (λ n. step.Rec n) target.Ram (λ n k. refl) 0 num_recs k in
      omega (arith, split target.Ram k, own, other role.Kernel 0 k items, other role.Initrd 0 k items, other role.Dtb 0 k items, other role.Raw 0 k items, other role.Unknown 0 k items, recs_none)

  item-once : (k : ℕ) → k < length items → times target.Item k (default_steps num_regions items num_recs) ≡ 1
  unfolding ram made counted
  item-once k low =
      let own = items-once 0 k items (omega arith) (omega arith) in
      let ram_none = row-other (λ n. step.Ram n) target.Item (λ n k. refl) 0 num_regions k in
      let recs_none = row-other (λ n. step.Rec n) target.Item (λ n k. refl) 0 num_recs k in
      omega (arith, split target.Item k, own, ram_none, recs_none)

  rec-once : (k : ℕ) → k < num_recs → times target.Rec k (default_steps num_regions items num_recs) ≡ 1
  unfolding ram made
  rec-once k low =
      let own = row-once (λ n. step.Rec n) target.Rec (λ n k. refl) 0 num_recs k (omega arith) (omega arith) in
      let other = items-other target.Rec (λ n k. refl) in
      let ram_none = row-other (λ n. step.Ram n) target.Rec (λ n k. refl) 0 num_regions k in
      omega (arith, split target.Rec k, own, other role.Kernel 0 k items, other role.Initrd 0 k items, other role.Dtb 0 k items, other role.Raw 0 k items, other role.Unknown 0 k items, ram_none)

  each-once : (p : StepTarget) (n : ℕ) → ((k : ℕ) → k < n → times p k (default_steps num_regions items num_recs) ≡ 1) → each_once p (default_steps num_regions items num_recs) n ≡ true
  unfolding each_once
  each-once p n once = all-pass (λ k. times p k (default_steps num_regions items num_recs) == 1) 0 n (λ k low. ap (λ (m : ℕ). m == 1) (once k (omega arith)))

  pub default-complete : steps_complete num_regions (length items) num_recs (default_steps num_regions items num_recs) ≡ true
  default-complete = rw (there, each-once target.Ram num_regions ram-once, each-once target.Item (length items) item-once, each-once target.Rec num_recs rec-once) refl
