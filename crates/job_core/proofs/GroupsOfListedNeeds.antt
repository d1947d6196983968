-- Needs that are listed are kept in groups of one page each, which are the same needs.
use Rattle.std.proofs.Common.{◌≡◌, ℕ, zero, suc, ◌+◌, ◌<◌, ◌≤◌, ◌^◌, Bool, true, false, cond, ◌&&◌, List, [], ◌∷◌, ◌++◌, length, get_or, set, map, take, Some}
use Rattle.std.proofs.Common.{None, Vec, Global, refl, sym, ap, ◌∙◌, subst, arith, inl, inr}
use Rattle.std.specs.Prelude.{◌==◌, ◌⊎◌, if◌then◌else◌}
use Rattle.std.specs.List.{All, flat_map, list_all, range_with_len, slice_get}
use Rattle.std.proofs.lemmas.List.{append-nil, get_or_push, length_push, length-map, length-set, length-take-le, get_or-map, take_more}
use Rattle.std.proofs.lemmas.List.Concat.{flat_map-append}
use Rattle.std.proofs.lemmas.List.Folds.{list_all-append}
use Rattle.std.proofs.lemmas.List.Sums.{sum_by_push}
use Rattle.std.proofs.lemmas.Bool.{cases_eq, eq-eqb, ne_eqb}
use Rattle.std.proofs.lemmas.Option.{slice_get_within, same_Some}
use Rattle.job_core.specs.declared.reaches.Reach.{Reach}
use Rattle.job_core.specs.declared.reaches.PageGroup.{PageGroup}
use Rattle.job_core.specs.declared.needs.Needs.TheVariants.{Listed}
use Rattle.job_core.specs.Jobs.{NeedsWithin}
use Rattle.job_core.specs.inside.Needs.{AreNeeds}
use Rattle.job_core.specs.inside.Reaches.{AreGroups, IsIndex, IsListed, all_of, count_of, group_needs, reach_needs}
use Rattle.job_core.proofs.CountsOfJobs.{bit, sum_by-slice_set}
use Rattle.job_core.proofs.NeedsOfGroups.{expand}
use Rattle.job_core.proofs.OneJobChanges.{slice_get-set_other, slice_get-set_same}

-- ---- lists

-- what is at an index of a list with one element more
abbrev pub IsPushed : {X : Type 0} → List X → X → ℕ → X → Type 0
IsPushed xs y i z = (slice_get xs i ≡ Some z) ⊎ ((i ≡ length xs) × (y ≡ z))

pub pushed_at : {X : Type 0} (xs : List X) (y z : X) (i : ℕ) → slice_get (xs ++ y ∷ []) i ≡ Some z → IsPushed xs y i z
pushed_at [] y z zero at = inr (refl, same_Some y z at)
pushed_at [] y z (suc i) at = cc
pushed_at (x ∷ xs) y z zero at = inl at
pushed_at (x ∷ xs) y z (suc i) at = by (pushed_at xs y z i at)
  where
    by : IsPushed xs y i z → IsPushed (x ∷ xs) y (suc i) z
    by (inl before) = inl before
    by (inr (last, same)) = inr (ap suc last, same)

-- what is at an index of a list in which one element was replaced
abbrev pub IsSet : {X : Type 0} → List X → ℕ → X → ℕ → X → Type 0
IsSet xs p y k z = ((k ≡ p) × (y ≡ z)) ⊎ ((k ≡ p → ⊥) × (slice_get xs k ≡ Some z))

pub set_at : {X : Type 0} (xs : List X) (p : ℕ) (x y z : X) (k : ℕ) → slice_get xs p ≡ Some x → slice_get (set xs p y) k ≡ Some z → IsSet xs p y k z
set_at xs p x y z k old at = by (cases_eq k p)
  where
    by : (k ≡ p) ⊎ (k ≡ p → ⊥) → IsSet xs p y k z
    by (inl same) = inl (same, same_Some y z (sym (slice_get-set_same xs p x y old) ∙ (ap (slice_get (set xs p y)) (sym same) ∙ at)))
    by (inr other) = inr (other, sym (slice_get-set_other xs p k y (ne_eqb k p other)) ∙ at)

last_other : (ls : List (List ℕ)) (a b d : List ℕ) (l : ℕ) → (l ≡ length ls → ⊥) → get_or (ls ++ a ∷ []) l d ≡ get_or (ls ++ b ∷ []) l d
last_other [] a b d zero other = absurd (other refl)
last_other [] a b d (suc l) other = refl
last_other (x ∷ ls) a b d zero other = refl
last_other (x ∷ ls) a b d (suc l) other = last_other ls a b d l (λ e. other (ap suc e))

last_empty : (ls : List (List ℕ)) (l : ℕ) → get_or (ls ++ [] ∷ []) l [] ≡ get_or ls l []
last_empty [] zero = refl
last_empty [] (suc l) = refl
last_empty (x ∷ ls) zero = refl
last_empty (x ∷ ls) (suc l) = last_empty ls l

-- a test of lists that are joined, with one list more
pub joined_push : {X : Type 0} (f : ℕ → Bool) (part : X → List ℕ) (xs : List X) (x : X)
    → list_all f (flat_map part (xs ++ x ∷ [])) ≡ list_all f (flat_map part xs) && list_all f (part x)
joined_push f part xs x =
    ap (list_all f) (flat_map-append part xs (x ∷ []))
    ∙ (list_all-append f (flat_map part xs) (part x ++ []) ∙ ap (λ (ys : List ℕ). list_all f (flat_map part xs) && list_all f ys) (append-nil (part x)))

-- ---- a page more for a launch

and_swap : (x b r : Bool) → (x && b) && r ≡ (x && r) && b
and_swap true true true = refl
and_swap true true false = refl
and_swap true false true = refl
and_swap true false false = refl
and_swap false b r = refl

pub reach_set : (f : ℕ → Bool) (l : ℕ) (gs : List PageGroup) (p : ℕ) (g h : PageGroup) (b : Bool) → slice_get gs p ≡ Some g
    → list_all f (group_needs l h) ≡ list_all f (group_needs l g) && b
    → list_all f (reach_needs (set gs p h) l) ≡ list_all f (reach_needs gs l) && b
reach_set f l [] p g h b at is = cc
reach_set f l (u ∷ gs) zero g h b at is =
    let ug : list_all f (group_needs l g) ≡ list_all f (group_needs l u) = ap (λ (v : PageGroup). list_all f (group_needs l v)) (sym (same_Some u g at)) in
    list_all-append f (group_needs l h) (reach_needs gs l)
    ∙ (ap (λ (c : Bool). c && list_all f (reach_needs gs l)) (is ∙ ap (λ (c : Bool). c && b) ug)
    ∙ (and_swap (list_all f (group_needs l u)) b (list_all f (reach_needs gs l))
    ∙ ap (λ (c : Bool). c && b) (sym (list_all-append f (group_needs l u) (reach_needs gs l)))))
reach_set f l (u ∷ gs) (suc p) g h b at is =
    list_all-append f (group_needs l u) (reach_needs (set gs p h) l)
    ∙ (ap (λ (c : Bool). list_all f (group_needs l u) && c) (reach_set f l gs p g h b at is)
    ∙ (and_same (list_all f (group_needs l u)) (list_all f (reach_needs gs l)) b
    ∙ ap (λ (c : Bool). c && b) (sym (list_all-append f (group_needs l u) (reach_needs gs l)))))
  where
    and_same : (x r c : Bool) → x && (r && c) ≡ (x && r) && c
    and_same true r c = refl
    and_same false r c = refl

pub record Pushed (n : ℕ) (g h : PageGroup) : Type 0 where
  pub first : h.first ≡ g.first
  pub count : h.count ≡ g.count
  pub items : h.reaches.items ≡ g.reaches.items ++ record { launch = n; count = 1 } ∷ []

pub pushed : (n : ℕ) (g h : PageGroup) → h.first ≡ g.first → h.count ≡ g.count → h.reaches.items ≡ g.reaches.items ++ record { launch = n; count = 1 } ∷ []
    → Pushed n g h
pushed n g h first count items = record { first = first; count = count; items = items }

index_push : (ls : List (List ℕ)) (xs : List ℕ) (gs : List PageGroup) (p : ℕ) (g h : PageGroup) → slice_get gs p ≡ Some g → g.first ≡ p → Pushed (length ls) g h
    → IsIndex (ls ++ xs ∷ []) gs → IsIndex (ls ++ (xs ++ p ∷ []) ∷ []) (set gs p h)
index_push ls xs gs p g h at single more index l f =
    reach_set f l gs p g h (list_all f (expand l p one)) at here
    ∙ (ap (λ (b : Bool). b && list_all f (expand l p one)) (index l f) ∙ by (cases_eq l (length ls)))
  where
    one : Reach
    one = record { launch = length ls; count = 1 }

    here : list_all f (group_needs l h) ≡ list_all f (group_needs l g) && list_all f (expand l p one)
    here =
        ap (λ (k : ℕ). list_all f (flat_map (expand l k) h.reaches.items)) more.first
        ∙ (ap (λ (qs : List Reach). list_all f (flat_map (expand l g.first) qs)) more.items
        ∙ (joined_push f (expand l g.first) g.reaches.items one ∙ ap (λ (k : ℕ). list_all f (group_needs l g) && list_all f (expand l k one)) single))

    by : (l ≡ length ls) ⊎ (l ≡ length ls → ⊥)
        → list_all f (get_or (ls ++ xs ∷ []) l []) && list_all f (expand l p one) ≡ list_all f (get_or (ls ++ (xs ++ p ∷ []) ∷ []) l [])
    by (inl same) =
        let test : (length ls == l) ≡ true = eq-eqb (length ls) l (sym same) in
        let old = get_or_push ls xs [] l (sym same) in
        let new = get_or_push ls (xs ++ p ∷ []) [] l (sym same) in
        ap (λ (ys : List ℕ). list_all f ys && list_all f (expand l p one)) old
        ∙ (ap (λ (b : Bool). list_all f xs && list_all f (if b then range_with_len p 1 else [])) test
        ∙ (sym (list_all-append f xs (p ∷ [])) ∙ ap (list_all f) (sym new)))
    by (inr other) =
        let test : (length ls == l) ≡ false = ne_eqb (length ls) l (λ e. other (sym e)) in
        let ys = get_or (ls ++ xs ∷ []) l [] in
        ap (λ (b : Bool). list_all f ys && list_all f (if b then range_with_len p 1 else [])) test
        ∙ (sym (list_all-append f ys []) ∙ ap (list_all f) (append-nil ys ∙ last_other ls xs (xs ++ p ∷ []) [] l other))

count_push : (ls : List (List ℕ)) (xs : List ℕ) (gs : List PageGroup) (p : ℕ) (g h : PageGroup) → slice_get gs p ≡ Some g → Pushed (length ls) g h
    → ((l : ℕ) → all_of l gs ≡ length (get_or (ls ++ xs ∷ []) l [])) → (l : ℕ) → all_of l (set gs p h) ≡ length (get_or (ls ++ (xs ++ p ∷ []) ∷ []) l [])
count_push ls xs gs p g h at more counted l = by (cases_eq l (length ls))
  where
    sets : all_of l (set gs p h) + count_of l g.reaches.items ≡ all_of l gs + count_of l h.reaches.items
    sets = sum_by-slice_set (λ (u : PageGroup). count_of l u.reaches.items) gs p g h at

    adds : count_of l h.reaches.items ≡ count_of l g.reaches.items + bit (length ls == l)
    adds = ap (count_of l) more.items ∙ sum_by_push (λ (q : Reach). cond (q.launch == l) 1 0) g.reaches.items (record { launch = length ls; count = 1 })

    by : (l ≡ length ls) ⊎ (l ≡ length ls → ⊥) → all_of l (set gs p h) ≡ length (get_or (ls ++ (xs ++ p ∷ []) ∷ []) l [])
    by (inl same) =
        let one : bit (length ls == l) ≡ 1 = ap bit (eq-eqb (length ls) l (sym same)) in
        let old = ap length (get_or_push ls xs [] l (sym same)) in
        let new = ap length (get_or_push ls (xs ++ p ∷ []) [] l (sym same)) in
        omega (arith, sets, adds, one, old, new, counted l, length_push xs p)
    by (inr other) =
        let none : bit (length ls == l) ≡ 0 = ap bit (ne_eqb (length ls) l (λ e. other (sym e))) in
        let same = ap length (last_other ls xs (xs ++ p ∷ []) [] l other) in
        omega (arith, sets, adds, none, same, counted l)

pub listed_push : (pages : ℕ) (ls : List (List ℕ)) (xs : List ℕ) (gs : List PageGroup) (p : ℕ) (g h : PageGroup) → slice_get gs p ≡ Some g
    → Pushed (length ls) g h
    → IsListed pages gs (ls ++ xs ∷ []) → IsListed pages (set gs p h) (ls ++ (xs ++ p ∷ []) ∷ [])
listed_push pages ls xs gs p g h at more is = record {
  size = length-set gs p h ∙ is.size;
  single = λ k u uat. single_by k u (set_at gs p g h u k at uat);
  named = λ k i u q uat qat. named_by k i u q qat (set_at gs p g h u k at uat);
  counted = count_push ls xs gs p g h at more is.counted;
  index = index_push ls xs gs p g h at (is.single p g at).0 more is.index;
}
  where
    single_by : (k : ℕ) (u : PageGroup) → IsSet gs p h k u → (u.first ≡ k) × (u.count ≡ 1)
    single_by k u (inl (same, hu)) =
        let s = is.single p g at in
        (ap (λ (v : PageGroup). v.first) (sym hu) ∙ (more.first ∙ (s.0 ∙ sym same)), ap (λ (v : PageGroup). v.count) (sym hu) ∙ (more.count ∙ s.1))
    single_by k u (inr (other, before)) = is.single k u before

    long : (ys zs : List ℕ) (n : ℕ) → n < length (ls ++ ys ∷ []) → n < length (ls ++ zs ∷ [])
    long ys zs n lt = omega (arith, lt, length_push ls ys, length_push ls zs)

    named_by : (k i : ℕ) (u : PageGroup) (q : Reach) → slice_get u.reaches.items i ≡ Some q → IsSet gs p h k u
        → (q.launch < length (ls ++ (xs ++ p ∷ []) ∷ [])) × (q.count ≡ 1)
    named_by k i u q qat (inl (same, hu)) =
        let items : u.reaches.items ≡ g.reaches.items ++ record { launch = length ls; count = 1 } ∷ [] =
        ap (λ (v : PageGroup). v.reaches.items) (sym hu) ∙ more.items in
        last_by i q (pushed_at g.reaches.items (record { launch = length ls; count = 1 }) q i (ap (λ (qs : List Reach). slice_get qs i) (sym items) ∙ qat))
      where
        last_by : (j : ℕ) (r : Reach) → IsPushed g.reaches.items (record { launch = length ls; count = 1 }) j r
            → (r.launch < length (ls ++ (xs ++ p ∷ []) ∷ [])) × (r.count ≡ 1)
        last_by j r (inl before) = let n = is.named p j g r at before in (long xs (xs ++ p ∷ []) r.launch n.0, n.1)
        last_by j r (inr (end, is_last)) =
            let l : length ls ≡ r.launch = ap (λ (s : Reach). s.launch) is_last in
            (omega (arith, l, length_push ls (xs ++ p ∷ [])), sym (ap (λ (s : Reach). s.count) is_last))
    named_by k i u q qat (inr (other, before)) = let n = is.named k i u q before qat in (long xs (xs ++ p ∷ []) q.launch n.0, n.1)

-- a launch more, of which nothing is listed yet
pub listed_more : (pages : ℕ) (ls : List (List ℕ)) (gs : List PageGroup) → IsListed pages gs ls → IsListed pages gs (ls ++ [] ∷ [])
listed_more pages ls gs is = record {
  size = is.size;
  single = is.single;
  named = λ k i g q at qat. let n = is.named k i g q at qat in (omega (arith, n.0, length_push ls []), n.1);
  counted = λ l. is.counted l ∙ ap length (sym (last_empty ls l));
  index = λ l f. is.index l f ∙ ap (list_all f) (sym (last_empty ls l));
}

-- a page more, which no launch needs
pub listed_page : (pages : ℕ) (gs : List PageGroup) (g : PageGroup) → g.first ≡ pages → g.count ≡ 1 → g.reaches.items ≡ [] → IsListed pages gs []
    → IsListed (pages + 1) (gs ++ g ∷ []) []
listed_page pages gs g first count items is = record {
  size = length_push gs g ∙ ap (λ n. n + 1) is.size;
  single = λ k u at. single_by k u (pushed_at gs g u k at);
  named = λ k i u q at qat. named_by k i u q qat (pushed_at gs g u k at);
  counted = λ l. sum_by_push (λ (u : PageGroup). count_of l u.reaches.items) gs g ∙ omega (arith, is.counted l, ap (count_of l) items);
  index = λ l f.
      joined_push f (group_needs l) gs g
      ∙ (ap (λ (b : Bool). b && list_all f (group_needs l g)) (is.index l f) ∙ ap (λ (qs : List Reach). list_all f (flat_map (expand l g.first) qs)) items);
}
  where
    single_by : (k : ℕ) (u : PageGroup) → IsPushed gs g k u → (u.first ≡ k) × (u.count ≡ 1)
    single_by k u (inl before) = is.single k u before
    single_by k u (inr (end, same)) =
        (ap (λ (v : PageGroup). v.first) (sym same) ∙ (first ∙ (sym is.size ∙ sym end)), ap (λ (v : PageGroup). v.count) (sym same) ∙ count)

    named_by : (k i : ℕ) (u : PageGroup) (q : Reach) → slice_get u.reaches.items i ≡ Some q → IsPushed gs g k u → (q.launch < 0) × (q.count ≡ 1)
    named_by k i u q qat (inl before) = is.named k i u q before qat
    named_by k i u q qat (inr (end, same)) =
        let none : slice_get u.reaches.items i ≡ None =
        ap (λ (v : PageGroup). slice_get v.reaches.items i) (sym same) ∙ ap (λ (qs : List Reach). slice_get qs i) items in
        cc

-- ---- all lists

pub listed_groups : (pages : ℕ) (gs : List PageGroup) (ls : List (List ℕ)) → ((l : ℕ) → length (get_or ls l []) < 2 ^ 64) → IsListed pages gs ls
    → AreGroups pages (length ls) gs
listed_groups pages gs ls few is = record {
  apart = λ i k g h lt at hat. let a = is.single i g at in let b = is.single k h hat in omega (arith, lt, a.0, a.1, b.0);
  each = λ k g at. record {
    within = let s = is.single k g at in let lt = slice_get_within gs k g at in omega (arith, s.0, s.1, lt, is.size);
    named = λ i q qat. let n = is.named k i g q at qat in let s = is.single k g at in (n.0, omega (arith, n.1), omega (arith, n.1, s.1));
    rising = λ i j q r lt qat rat. let m = is.named k i g q at qat in let n = is.named k j g r at rat in omega (arith, m.1, n.1);
  };
  few = λ l. omega (arith, is.counted l, few l);
}

pub few_each : (vs : List (Vec ℕ Global)) (l : ℕ) → length (get_or (map (λ (v : Vec ℕ Global). v.items) vs) l []) < 2 ^ 64
few_each [] l = omega arith
few_each (v ∷ vs) zero = omega (arith, v.ok.0, v.ok.1, v.small)
few_each (v ∷ vs) (suc l) = few_each vs l

pub listed_needs : (pages : ℕ) (lists : Vec (Vec ℕ Global) Global) (groups : Vec PageGroup Global)
    → NeedsWithin (map (λ (v : Vec ℕ Global). v.items) lists.items) pages
    → IsListed pages groups.items (map (λ (v : Vec ℕ Global). v.items) lists.items) → AreNeeds pages (Listed lists groups)
listed_needs pages lists groups within is = record {
  within = within;
  groups = listed_groups pages groups.items (map (λ (v : Vec ℕ Global). v.items) lists.items) (few_each lists.items) is;
  index = is.index;
}

-- the list of a launch
own_list : (vs : List (Vec ℕ Global)) (k : ℕ) (v : Vec ℕ Global) (d : List ℕ) → k < length vs → v ≡ get_or vs k v
    → get_or (map (λ (u : Vec ℕ Global). u.items) vs) k d ≡ v.items
own_list vs k v d lt is = get_or-map (λ (u : Vec ℕ Global). u.items) vs k v d lt ∙ ap (λ (u : Vec ℕ Global). u.items) (sym is)

pub list_within : (pages : ℕ) (vs : List (Vec ℕ Global)) (k : ℕ) (v : Vec ℕ Global) → NeedsWithin (map (λ (u : Vec ℕ Global). u.items) vs) pages → k < length vs
    → v ≡ get_or vs k v → All (λ p. p < pages) v.items
list_within pages vs k v within lt is =
    let lt' : k < length (map (λ (u : Vec ℕ Global). u.items) vs) = omega (arith, lt, length-map vs (λ (u : Vec ℕ Global). u.items)) in
    subst (λ (xs : List ℕ). All (λ p. p < pages) xs) (own_list vs k v [] lt is) (within k [] lt')

pub listed_step : (pages : ℕ) (vs : List (Vec ℕ Global)) (k : ℕ) (v : Vec ℕ Global) (gs new : List PageGroup) → k < length vs → v ≡ get_or vs k v
    → IsListed pages gs (take k (map (λ (u : Vec ℕ Global). u.items) vs))
    → ((lists : List (List ℕ)) → length lists ≡ k → IsListed (length gs) gs lists → IsListed (length gs) new (lists ++ v.items ∷ []))
    → IsListed pages new (take (k + 1) (map (λ (u : Vec ℕ Global). u.items) vs))
listed_step pages vs k v gs new lt is before adds =
    let ls : List (List ℕ) = map (λ (u : Vec ℕ Global). u.items) vs in
    let lt' : k < length (map (λ (u : Vec ℕ Global). u.items) vs) = omega (arith, lt, length-map vs (λ (u : Vec ℕ Global). u.items)) in
    let le' : k ≤ length (map (λ (u : Vec ℕ Global). u.items) vs) = omega (arith, lt') in
    let own : get_or ls k [] ≡ v.items = own_list vs k v [] lt is in
    let more : take (k + 1) ls ≡ take k ls ++ v.items ∷ [] = take_more ls k [] lt' ∙ ap (λ (xs : List ℕ). take k ls ++ xs ∷ []) own in
    let now = adds (take k ls) (length-take-le k ls le') (subst (λ (n : ℕ). IsListed n gs (take k ls)) (sym before.size) before) in
    subst (λ (xs : List (List ℕ)). IsListed pages new xs) (sym more) (subst (λ (n : ℕ). IsListed n new (take k ls ++ v.items ∷ [])) before.size now)
