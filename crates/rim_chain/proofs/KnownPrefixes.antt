-- Prefixes whose values are known: of which launches they are, and what keeps them.
use Rattle.std.proofs.Common.{rules, ◌≡◌, ◌⊎◌, inl, inr, ℕ, zero, suc, ◌+◌, ◌∙◌, refl, sym, ap, subst, arith, true, List, [], ◌∷◌, ◌++◌, length, map, set, get_or, take, drop, Option, Some, None}
use Rattle.std.specs.Prelude.{IfSome}
use Rattle.std.specs.List.{All, Contains, filter_map, slice_get}
use Rattle.std.specs.Option.{option_map}
use Rattle.std.proofs.lemmas.List.{length-append, length-take-le, take-append-drop}
use Rattle.std.proofs.lemmas.List.Concat.{flat_map-append}
use Rattle.std.proofs.lemmas.List.Elements.{All-contains, All-set}
use Rattle.std.proofs.lemmas.Option.{get_or_from_slice_get, same_Some, slice_get-map, slice_get_within}
use Rattle.rim_desc.specs.declared.measurement.Measurement.{Measurement}
use Rattle.page_jobs.specs.Table.{TableView, digest_at}
use Rattle.page_jobs.specs.declared.page.PageKey.{PageKey}
use Rattle.launch_plan.specs.Prefixes.{IsPrefix, prefix_of, prefix_value}
use Rattle.launch_plan.specs.Links.{PlanView, chain_of, keys_in, keys_of}
use Rattle.launch_plan.specs.Rows.{IsRowOf, has_all, value_in}
use Rattle.rim_chain.specs.SharedPrefixes.{AreShared, HaveOwnValues, IsKept, IsOwnPrefix, IsValueOfPrefix}
use Rattle.launch_plan.specs.declared.prefix.Prefix.{Prefix}
use Rattle.launch_plan.specs.declared.prefix.Checkpoint.{Checkpoint}
use Rattle.rim_chain.specs.inside.Checkpoints.{BothHavePrefix, HaveNoValues}
use Rattle.launch_plan.proofs.RowsLinkByLink.{row-length, row-parts}

-- ---- a row of a table's digests

-- it has just these
pub row-values : (t : TableView) (keys : List PageKey) (digests : List Measurement) → IsRowOf t keys digests → filter_map (digest_at t) keys ≡ digests
row-values t [] [] row = refl
row-values t [] (d ∷ digests) row = absurd (cc)
row-values t (key ∷ keys) [] row = absurd (cc)
row-values t (key ∷ keys) (d ∷ digests) row = rw (here, row-values t keys digests rest) refl
  where
    here : digest_at t key ≡ Some d
    here = cc

    rest : map (digest_at t) keys ≡ map (λ m. Some m) digests
    rest = cc

-- and the table has all of them
row-full : (t : TableView) (keys : List PageKey) (digests : List Measurement) → IsRowOf t keys digests → has_all t keys ≡ true
row-full t [] digests row = refl
row-full t (key ∷ keys) [] row = absurd (cc)
row-full t (key ∷ keys) (d ∷ digests) row = rw (here, row-full t keys digests rest) refl
  where
    here : digest_at t key ≡ Some d
    here = cc

    rest : map (digest_at t) keys ≡ map (λ m. Some m) digests
    rest = cc

-- the first digests are the row of a prefix
prefix-row : (t : TableView) (p : PlanView) (n : ℕ) (digests : List Measurement) → IsRowOf t (keys_of p.links) digests
    → IsRowOf t (keys_of (take n p.links)) (take (length (keys_of (take n p.links))) digests)
prefix-row t p n digests row =
    let prefix : List PageKey = keys_of (take n p.links) in
    let back : List PageKey = keys_of (drop n p.links) in
    let k : ℕ = length prefix in
    let keys : keys_of p.links ≡ prefix ++ back = ap keys_of (sym (take-append-drop n p.links)) ∙ flat_map-append keys_in (take n p.links) (drop n p.links) in
    let size : length digests ≡ length (prefix ++ back) = row-length t (keys_of p.links) digests row ∙ ap length keys in
    let sum : length (prefix ++ back) ≡ length prefix + length back = length-append prefix back in
    let short : length (take k digests) ≡ k = length-take-le k digests (omega (arith, size, sum)) in
    let whole : IsRowOf t (prefix ++ back) (take k digests ++ drop k digests) =
    subst (λ (ks : List PageKey). IsRowOf t ks (take k digests ++ drop k digests)) keys (subst (IsRowOf t (keys_of p.links)) (sym (take-append-drop k digests)) row) in
    ((row-parts t prefix back (take k digests) (drop k digests) (sym short)).0 whole).0

prefix-value-in : (t : TableView) (p : PlanView) (n : ℕ) (digests : List Measurement) → IsRowOf t (keys_of p.links) digests → prefix_value n p digests ≡ value_in t (prefix_of n p)
prefix-value-in t p n digests row = ap (chain_of (prefix_of n p)) (sym (row-values t (keys_of (take n p.links)) (take (length (keys_of (take n p.links))) digests) (prefix-row t p n digests row)))

-- a prefix of the table's is a prefix with the digests of the plan's row
own-prefix : (t : TableView) (p : PlanView) (n : ℕ) (v : Measurement) (digests : List Measurement) → IsRowOf t (keys_of p.links) digests → IsValueOfPrefix t p n v → IsPrefix p digests (record { links = n; value = v })
own-prefix t p n v digests row h = (h.within, h.value ∙ sym (prefix-value-in t p n digests row))

-- what holds where there is a value, made of what holds there
if-some : {X : Type 0} (P Q : X → Type 0) → ((x : X) → P x → Q x) → (o : Option X) → IfSome o P → IfSome o Q
if-some P Q f None h = h
if-some P Q f (Some x) h = f x h

-- and the other way round
pub known-prefix : (t : TableView) (p : PlanView) (n : ℕ) (v : Measurement) (digests : List Measurement) → IsRowOf t (keys_of p.links) digests → IsPrefix p digests (record { links = n; value = v }) → IsValueOfPrefix t p n v
known-prefix t p n v digests row h = record {
  within = h.0;
  full = row-full t (keys_of (take n p.links)) (take (length (keys_of (take n p.links))) digests) (prefix-row t p n digests row);
  value = h.1 ∙ prefix-value-in t p n digests row;
}

pub own-shared_prefix : (t : TableView) (p : PlanView) (digests : List Measurement) (shared_prefix : Option Prefix) → IsRowOf t (keys_of p.links) digests → IfSome shared_prefix (λ f. IsValueOfPrefix t p f.links f.value) → IfSome shared_prefix (IsPrefix p digests)
own-shared_prefix t p digests shared_prefix row = if-some (λ f. IsValueOfPrefix t p f.links f.value) (IsPrefix p digests) (λ f. own-prefix t p f.links f.value digests row) shared_prefix

-- ---- the checkpoints of a launch

-- before any launch is chained, whatever the lists of checkpoints are kept in
pub shared-first : {X : Type 0} (f : X → List Checkpoint) (t : TableView) (plans : List PlanView) (checkpoints : List X) → All (λ v. HaveNoValues (f v)) checkpoints
    → AreShared t plans (map f checkpoints)
shared-first {X = X} f t plans checkpoints none = λ l p own plan at k m inside.
    let checkpoint : Checkpoint = get_or own k m in
    let no_values : HaveNoValues own = at-launch l own (slice_get checkpoints l) refl (sym (slice_get-map f checkpoints l) ∙ at) in
    subst (λ (o : Option Measurement). IfSome o (IsValueOfPrefix t p checkpoint.links)) (sym (no_values k m inside)) (search rules)
  where
    at-launch : (l : ℕ) (own : List Checkpoint) (o : Option X) → slice_get checkpoints l ≡ o → option_map f o ≡ Some own → HaveNoValues own
    at-launch l own None is e = absurd (cc)
    at-launch l own (Some v) is e =
        let there : HaveNoValues (f (get_or checkpoints l v)) = none l v (slice_get_within checkpoints l v is) in
        subst HaveNoValues (same_Some (f v) own e) (subst (λ (u : X). HaveNoValues (f u)) (get_or_from_slice_get checkpoints l v v is) there)

-- an element of a list of which one was replaced
set-cases : {Y : Type 0} (xs : List Y) (i j : ℕ) (y z : Y) → slice_get (set xs i y) j ≡ Some z → ((j ≡ i) × (y ≡ z)) ⊎ (slice_get xs j ≡ Some z)
set-cases [] i j y z at = inr at
set-cases (x ∷ xs) zero zero y z at = inl (refl, same_Some y z at)
set-cases (x ∷ xs) zero (suc j) y z at = inr at
set-cases (x ∷ xs) (suc i) zero y z at = inr at
set-cases (x ∷ xs) (suc i) (suc j) y z at = elim (set-cases xs i j y z at) [
  | inl here ↦ inl (ap suc here.0, here.1)
  | inr there ↦ inr there
]

-- where a launch's own prefix is kept, each launch still has its own values
pub shared-kept : (t : TableView) (plans : List PlanView) (old new : List (List Checkpoint)) (n : ℕ) (f : Prefix) → IsKept old n f new → IsOwnPrefix t plans n f → AreShared t plans old
    → AreShared t plans new
shared-kept t plans old new n f kept prefix shared = λ l p own plan is.
    let checkpoint : Checkpoint = record { links = f.links; value = Some f.value } in
    let put : HaveOwnValues t p kept.own → IsValueOfPrefix t p f.links f.value → HaveOwnValues t p kept.kept = λ values value.
    subst (HaveOwnValues t p) (sym kept.put.after) (All-set (λ m. IfSome m.value (IsValueOfPrefix t p m.links)) kept.own kept.put.at checkpoint value values) in
    elim (set-cases old n l kept.kept own (ap (λ (lists : List (List Checkpoint)). slice_get lists l) (sym kept.after) ∙ is)) [
      | inl here ↦
          (let same : slice_get plans n ≡ Some p = ap (slice_get plans) (sym here.0) ∙ plan in
          subst (HaveOwnValues t p) here.1 (put (shared n p kept.own same kept.before) (prefix p same)))
      | inr other ↦ shared l p own plan other
    ]

-- the prefix that a launch has in common with another is its own
pub shared-prefix : (t : TableView) (plans : List PlanView) (checkpoints : List (List Checkpoint)) (a b : ℕ) (own : List Checkpoint) (n : ℕ) (v : Measurement) (p : PlanView) → AreShared t plans checkpoints
    → slice_get checkpoints a ≡ Some own → Contains own (record { links = n; value = Some v }) → BothHavePrefix plans a b n → slice_get plans b ≡ Some p → IsValueOfPrefix t p n v
shared-prefix t plans checkpoints a b own n v p shared at has both plan =
    let h : IsValueOfPrefix t both.first n v = All-contains (λ m. IfSome m.value (IsValueOfPrefix t both.first m.links)) own (record { links = n; value = Some v }) (shared a both.first own both.at_first at) has in
    let prefixes : prefix_of n both.first ≡ prefix_of n both.second = both.same.2 in
    let second : both.second ≡ p = same_Some both.second p (sym both.at_second ∙ plan) in
    subst (λ (q : PlanView). IsValueOfPrefix t q n v) second (record {
      within = both.same.1;
      full = ap (λ (q : PlanView). has_all t (keys_of q.links)) (sym prefixes) ∙ h.full;
      value = h.value ∙ ap (value_in t) prefixes;
    })

-- a prefix with the digests of the plan's row is the launch's own
pub row-prefix : (t : TableView) (plans : List PlanView) (l n : ℕ) (p : PlanView) (digests : List Measurement) (v : Measurement) → slice_get plans l ≡ Some p
    → IsRowOf t (keys_of p.links) digests → IsPrefix p digests (record { links = n; value = v }) → IsOwnPrefix t plans l (record { links = n; value = v })
row-prefix t plans l n p digests v own row prefix = λ q at.
    subst (λ (r : PlanView). IsValueOfPrefix t r n v) (same_Some p q (sym own ∙ at)) (known-prefix t p n v digests row prefix)
