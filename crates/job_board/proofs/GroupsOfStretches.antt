-- Stretches of pages that launches need, in the order of pages, make groups of pages.
use Rattle.std.proofs.Common.{◌≡◌, ◌≢◌, ℕ, zero, suc, ◌+◌, ◌-◌, ◌<◌, ◌≤◌, ◌^◌, Bool, cond, ◌&&◌, List, [], ◌∷◌, ◌++◌, length, get_or, set, take, Some, refl}
use Rattle.std.proofs.Common.{sym, ap, ◌∙◌, subst, arith, inl, inr}
use Rattle.std.specs.Prelude.{◌==◌, ◌⊎◌}
use Rattle.std.specs.List.{flat_map, list_all, slice_get}
use Rattle.std.proofs.lemmas.List.{append-nil, get_or-take, length-take-le, length-set}
use Rattle.std.proofs.lemmas.List.Sums.{count_by-le-length, sum_by_push}
use Rattle.std.proofs.lemmas.Bool.{cases_lt}
use Rattle.std.proofs.lemmas.Option.{get_or_from_slice_get, slice_get_within, slice_get-get_or, same_Some}
use Rattle.job_board.specs.declared.grouping.Stretch.{Stretch}
use Rattle.job_core.specs.declared.reaches.Reach.{Reach}
use Rattle.job_core.specs.declared.reaches.PageGroup.{PageGroup}
use Rattle.job_board.specs.inside.Grouping.{AreStretches, Comes, IsGrouped, Precedes, own_pages}
use Rattle.job_core.specs.inside.Reaches.{AreGroups, IsGroup, count_of, group_needs}
use Rattle.job_core.proofs.CountsOfJobs.{bit, sum_by-slice_set}
use Rattle.job_core.proofs.GroupsOfListedNeeds.{IsPushed, IsSet, joined_push, pushed_at, reach_set, set_at}
use Rattle.job_core.proofs.NeedsOfGroups.{expand}

abbrev pub reach_of : Stretch → Reach
reach_of s = record { launch = s.launch; count = s.count }

kept_at : {X : Type 0} (xs : List X) (y z : X) (i : ℕ) → slice_get xs i ≡ Some z → slice_get (xs ++ y ∷ []) i ≡ Some z
kept_at [] y z i at = cc
kept_at (x ∷ xs) y z zero at = at
kept_at (x ∷ xs) y z (suc i) at = kept_at xs y z i at

end_at : {X : Type 0} (xs : List X) (y : X) → slice_get (xs ++ y ∷ []) (length xs) ≡ Some y
end_at [] y = refl
end_at (x ∷ xs) y = end_at xs y

-- ---- a new group

-- every group ends before a stretch that begins with no group's first page
pub ends_before : (pages launches : ℕ) (ss : List Stretch) (gs : List PageGroup) (s : Stretch) → Comes pages launches ss s → IsGrouped pages launches ss gs
    → ((g : PageGroup) → slice_get gs (length gs - 1) ≡ Some g → g.first ≢ s.first) → (k : ℕ) (g : PageGroup) → slice_get gs k ≡ Some g
    → g.first + g.count ≤ s.first
ends_before pages launches ss gs s comes is new k g at = by o.0 o.1 (comes.after o.0 o.1 o.2)
  where
    o : (i : ℕ) × (a : Stretch) × (slice_get ss i ≡ Some a) × (a.first ≡ g.first) × (a.count ≡ g.count) × (0 < a.count)
    o = is.origin k g at

    lt : k < length gs
    lt = slice_get_within gs k g at

    same_first : g.first ≡ s.first → (k + 1 < length gs) ⊎ (length gs ≤ k + 1) → ⊥
    same_first same (inl more) =
        let last = length gs - 1 in
        let inside : length gs - 1 < length gs = omega (arith, lt) in
        let h = get_or gs (length gs - 1) g in
        let hat = slice_get-get_or gs (length gs - 1) g inside in
        let below : k < length gs - 1 = omega (arith, more) in
        let far = is.apart k (length gs - 1) g h below at hat in
        let some : 0 < g.count = omega (arith, o.4, o.5) in
        late h far some (is.origin (length gs - 1) h hat)
      where
        late : (h : PageGroup) → g.first + g.count ≤ h.first → 0 < g.count
            → (i : ℕ) × (a : Stretch) × (slice_get ss i ≡ Some a) × (a.first ≡ h.first) × (a.count ≡ h.count) × (0 < a.count) → ⊥
        late h far some b = late_by (comes.after b.0 b.1 b.2)
          where
            late_by : Precedes b.1 s → ⊥
            late_by (inl ends) = omega (arith, ends, b.3, far, some, same)
            late_by (inr alike) = omega (arith, alike.0, b.3, far, some, same)
    same_first same (inr end) =
        let at_end : k ≡ length gs - 1 = omega (arith, end, lt) in
        new g (ap (slice_get gs) (sym at_end) ∙ at) same

    by : (i : ℕ) (a : Stretch) → Precedes o.1 s → g.first + g.count ≤ s.first
    by i a (inl ends) = omega (arith, ends, o.3, o.4)
    by i a (inr alike) = absurd (same_first (sym o.3 ∙ alike.0) (cases_lt (k + 1) (length gs)))

pub grouped_new : (pages launches : ℕ) (ss : List Stretch) (gs : List PageGroup) (s : Stretch) (h : PageGroup) → Comes pages launches ss s
    → IsGrouped pages launches ss gs
    → ((g : PageGroup) → slice_get gs (length gs - 1) ≡ Some g → g.first ≢ s.first) → h.first ≡ s.first → h.count ≡ s.count → h.reaches.items ≡ reach_of s ∷ []
    → IsGrouped pages launches (ss ++ s ∷ []) (gs ++ h ∷ [])
grouped_new pages launches ss gs s h comes is new first count items = record {
  apart = λ i k a b lt aat bat. apart_by i k a b lt (pushed_at gs h a i aat) (pushed_at gs h b k bat);
  each = λ k g at. each_by k g (pushed_at gs h g k at);
  origin = λ k g at. origin_by k g (pushed_at gs h g k at);
  counted = λ l.
      let a = sum_by_push (λ (u : PageGroup). count_of l u.reaches.items) gs h in
      let b = sum_by_push (λ (u : Stretch). cond (u.launch == l) 1 0) ss s in
      let c = ap (count_of l) items in
      omega (arith, a, b, c, is.counted l);
  index = λ l f.
      joined_push f (group_needs l) gs h
      ∙ (ap (λ (b : Bool). b && list_all f (group_needs l h)) (is.index l f)
      ∙ (ap (λ (b : Bool). list_all f (flat_map (own_pages l) ss) && b) (here l f) ∙ sym (joined_push f (own_pages l) ss s)));
}
  where
    here : (l : ℕ) (f : ℕ → Bool) → list_all f (group_needs l h) ≡ list_all f (own_pages l s)
    here l f =
        ap (list_all f) (ap (flat_map (expand l h.first)) items
        ∙ (append-nil (expand l h.first (reach_of s)) ∙ ap (λ (n : ℕ). expand l n (reach_of s)) first))

    apart_by : (i k : ℕ) (a b : PageGroup) → i < k → IsPushed gs h i a → IsPushed gs h k b → a.first + a.count ≤ b.first
    apart_by i k a b lt (inl aat) (inl bat) = is.apart i k a b lt aat bat
    apart_by i k a b lt (inl aat) (inr bat) =
        let ends = ends_before pages launches ss gs s comes is new i a aat in
        let own : h.first ≡ b.first = ap (λ (u : PageGroup). u.first) bat.1 in
        omega (arith, ends, own, first)
    apart_by i k a b lt (inr aat) (inl bat) = absurd (omega (arith, lt, aat.0, slice_get_within gs k b bat))
    apart_by i k a b lt (inr aat) (inr bat) = absurd (omega (arith, lt, aat.0, bat.0))

    one : IsGroup pages launches h
    one = record {
      within = omega (arith, first, count, comes.within);
      named = λ k q at. named_by k q (ap (λ (qs : List Reach). slice_get qs k) (sym items) ∙ at);
      rising = λ i k q r lt qat rat. absurd (omega (arith, lt, slice_get_within h.reaches.items k r rat, ap length items));
    }
      where
        named_by : (k : ℕ) (q : Reach) → slice_get (reach_of s ∷ []) k ≡ Some q → (q.launch < launches) × (0 < q.count) × (q.count ≤ h.count)
        named_by zero q at =
            let l : s.launch ≡ q.launch = ap (λ (r : Reach). r.launch) (same_Some (reach_of s) q at) in
            let c : s.count ≡ q.count = ap (λ (r : Reach). r.count) (same_Some (reach_of s) q at) in
            (omega (arith, l, comes.launch), omega (arith, c, comes.some), omega (arith, c, count))
        named_by (suc k) q at = cc

    each_by : (k : ℕ) (g : PageGroup) → IsPushed gs h k g → IsGroup pages launches g
    each_by k g (inl at) = is.each k g at
    each_by k g (inr at) = subst (IsGroup pages launches) at.1 one

    origin_by : (k : ℕ) (g : PageGroup) → IsPushed gs h k g
        → (i : ℕ) × (a : Stretch) × (slice_get (ss ++ s ∷ []) i ≡ Some a) × (a.first ≡ g.first) × (a.count ≡ g.count) × (0 < a.count)
    origin_by k g (inl at) = let o = is.origin k g at in (o.0, o.1, kept_at ss s o.1 o.0 o.2, o.3, o.4, o.5)
    origin_by k g (inr at) =
        (length ss, s, end_at ss s, sym first ∙ ap (λ (u : PageGroup). u.first) at.1, sym count ∙ ap (λ (u : PageGroup). u.count) at.1, comes.some)

-- ---- the last group grows

pub grouped_more : (pages launches : ℕ) (ss : List Stretch) (gs : List PageGroup) (s : Stretch) (g h : PageGroup) → Comes pages launches ss s
    → IsGrouped pages launches ss gs
    → slice_get gs (length gs - 1) ≡ Some g → g.first ≡ s.first → h.first ≡ g.first → h.count ≡ s.count → h.reaches.items ≡ g.reaches.items ++ reach_of s ∷ []
    → IsGrouped pages launches (ss ++ s ∷ []) (set gs (length gs - 1) h)
grouped_more pages launches ss gs s g h comes is last same first count items = record {
  apart = λ i k a b lt aat bat. apart_by i k a b lt bat (found i a aat) (found k b bat);
  each = λ k u at. each_by k u (found k u at);
  origin = λ k u at. origin_by k u (found k u at);
  counted = λ l.
      let a = sum_by-slice_set (λ (u : PageGroup). count_of l u.reaches.items) gs (length gs - 1) g h last in
      let b = sum_by_push (λ (u : Stretch). cond (u.launch == l) 1 0) ss s in
      let c : count_of l h.reaches.items ≡ count_of l g.reaches.items + bit (s.launch == l) =
      ap (count_of l) items ∙ sum_by_push (λ (q : Reach). cond (q.launch == l) 1 0) g.reaches.items (reach_of s) in
      omega (arith, a, b, c, is.counted l);
  index = λ l f. reach_set f l gs (length gs - 1) g h (list_all f (own_pages l s)) last (here l f)
      ∙ (ap (λ (b : Bool). b && list_all f (own_pages l s)) (is.index l f) ∙ sym (joined_push f (own_pages l) ss s));
}
  where
    here : (l : ℕ) (f : ℕ → Bool) → list_all f (group_needs l h) ≡ list_all f (group_needs l g) && list_all f (own_pages l s)
    here l f =
        ap (λ (n : ℕ). list_all f (flat_map (expand l n) h.reaches.items)) first
        ∙ (ap (λ (qs : List Reach). list_all f (flat_map (expand l g.first) qs)) items
        ∙ (joined_push f (expand l g.first) g.reaches.items (reach_of s)
        ∙ ap (λ (n : ℕ). list_all f (group_needs l g) && list_all f (expand l n (reach_of s))) same))

    found : (k : ℕ) (u : PageGroup) → slice_get (set gs (length gs - 1) h) k ≡ Some u → IsSet gs (length gs - 1) h k u
    found k u at = set_at gs (length gs - 1) g h u k last at

    apart_by : (i k : ℕ) (a b : PageGroup) → i < k → slice_get (set gs (length gs - 1) h) k ≡ Some b → IsSet gs (length gs - 1) h i a
        → IsSet gs (length gs - 1) h k b → a.first + a.count ≤ b.first
    apart_by i k a b lt bat (inl (end, ha)) more =
        absurd (omega (arith, lt, end, slice_get_within (set gs (length gs - 1) h) k b bat, length-set gs (length gs - 1) h))
    apart_by i k a b lt bat (inr (other, aat)) (inl (end, hb)) =
        let far = is.apart i (length gs - 1) a g (omega (arith, lt, end)) aat last in
        let own : h.first ≡ b.first = ap (λ (u : PageGroup). u.first) hb in
        omega (arith, far, own, first)
    apart_by i k a b lt bat (inr (other, aat)) (inr (another, before)) = is.apart i k a b lt aat before

    longer : g.count ≤ s.count
    longer = longer_by (is.origin (length gs - 1) g last)
      where
        longer_by : (i : ℕ) × (a : Stretch) × (slice_get ss i ≡ Some a) × (a.first ≡ g.first) × (a.count ≡ g.count) × (0 < a.count) → g.count ≤ s.count
        longer_by o = longer_at (comes.after o.0 o.1 o.2)
          where
            longer_at : Precedes o.1 s → g.count ≤ s.count
            longer_at (inl ends) = absurd (omega (arith, ends, o.3, o.5, same))
            longer_at (inr alike) = omega (arith, alike.1, o.4)

    old : IsGroup pages launches g
    old = is.each (length gs - 1) g last

    named_by : (k : ℕ) (q : Reach) → IsPushed g.reaches.items (reach_of s) k q → (q.launch < launches) × (0 < q.count) × (q.count ≤ h.count)
    named_by k q (inl at) = let n = old.named k q at in (n.0, n.1, omega (arith, n.2, longer, count))
    named_by k q (inr at) =
        let l : s.launch ≡ q.launch = ap (λ (r : Reach). r.launch) at.1 in
        let c : s.count ≡ q.count = ap (λ (r : Reach). r.count) at.1 in
        (omega (arith, l, comes.launch), omega (arith, c, comes.some), omega (arith, c, count))

    rising_by : (i k : ℕ) (q r : Reach) → i < k → IsPushed g.reaches.items (reach_of s) i q → IsPushed g.reaches.items (reach_of s) k r → q.count ≤ r.count
    rising_by i k q r lt (inl qat) (inl rat) = old.rising i k q r lt qat rat
    rising_by i k q r lt (inl qat) (inr rat) =
        let n = old.named i q qat in
        let c : s.count ≡ r.count = ap (λ (p : Reach). p.count) rat.1 in
        omega (arith, n.2, longer, c)
    rising_by i k q r lt (inr qat) (inl rat) = absurd (omega (arith, lt, qat.0, slice_get_within g.reaches.items k r rat))
    rising_by i k q r lt (inr qat) (inr rat) = absurd (omega (arith, lt, qat.0, rat.0))

    one : IsGroup pages launches h
    one = record {
      within = omega (arith, first, count, same, comes.within);
      named = λ k q at. named_by k q (pushed_at g.reaches.items (reach_of s) q k (ap (λ (qs : List Reach). slice_get qs k) (sym items) ∙ at));
      rising = λ i k q r lt qat rat. rising_by i k q r lt
          (pushed_at g.reaches.items (reach_of s) q i (ap (λ (qs : List Reach). slice_get qs i) (sym items) ∙ qat))
          (pushed_at g.reaches.items (reach_of s) r k (ap (λ (qs : List Reach). slice_get qs k) (sym items) ∙ rat));
    }

    each_by : (k : ℕ) (u : PageGroup) → IsSet gs (length gs - 1) h k u → IsGroup pages launches u
    each_by k u (inl (end, hu)) = subst (IsGroup pages launches) hu one
    each_by k u (inr (other, at)) = is.each k u at

    origin_by : (k : ℕ) (u : PageGroup) → IsSet gs (length gs - 1) h k u
        → (i : ℕ) × (a : Stretch) × (slice_get (ss ++ s ∷ []) i ≡ Some a) × (a.first ≡ u.first) × (a.count ≡ u.count) × (0 < a.count)
    origin_by k u (inl (end, hu)) =
        let begin = sym same ∙ (sym first ∙ ap (λ (v : PageGroup). v.first) hu) in
        (length ss, s, end_at ss s, begin, sym count ∙ ap (λ (v : PageGroup). v.count) hu, comes.some)
    origin_by k u (inr (other, at)) = let o = is.origin k u at in (o.0, o.1, kept_at ss s o.1 o.0 o.2, o.3, o.4, o.5)

-- ---- all stretches

pub grouped_are : (pages launches : ℕ) (ss : List Stretch) (gs : List PageGroup) → length ss < 2 ^ 64 → IsGrouped pages launches ss gs
    → AreGroups pages launches gs
grouped_are pages launches ss gs few is = record {
  apart = is.apart;
  each = is.each;
  few = λ l. omega (arith, is.counted l, few, count_by-le-length (λ (s : Stretch). s.launch == l) ss);
}

pub next_comes : (pages launches : ℕ) (ss : List Stretch) (i : ℕ) (d : Stretch) → AreStretches pages launches ss → i < length ss
    → Comes pages launches (take i ss) (get_or ss i d)
next_comes pages launches ss i d are lt = record {
  within = (are.each i (get_or ss i d) at).0;
  some = (are.each i (get_or ss i d) at).1;
  launch = (are.each i (get_or ss i d) at).2;
  after = λ k a kat.
      let below' : k < length (take i ss) = slice_get_within (take i ss) k a kat in
      let below : k < i = omega (arith, below', length-take-le i ss (omega (arith, lt))) in
      let own : get_or ss k a ≡ a = sym (get_or-take i ss k a below) ∙ get_or_from_slice_get (take i ss) k a a kat in
      are.order k i a (get_or ss i d) below (slice_get-get_or ss k a (omega (arith, below, lt)) ∙ ap Some own) at;
}
  where
    at : slice_get ss i ≡ Some (get_or ss i d)
    at = slice_get-get_or ss i d lt
