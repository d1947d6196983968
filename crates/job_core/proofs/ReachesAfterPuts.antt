-- What launches wait for is right after each put.
use Rattle.std.proofs.Common.{◌≡◌, ◌≢◌, ℕ, zero, suc, ◌+◌, ◌-◌, ◌<◌, ◌≤◌, true, false, cond, List, [], ◌∷◌, length, get_or, set, drop, take, Some, refl, sym, ap, ◌∙◌, subst, arith, inl, inr}
use Rattle.std.specs.Prelude.{◌==◌, ◌⊎◌}
use Rattle.std.specs.List.{slice_get}
use Rattle.std.specs.List.Sorted.{IsNonDecreasingBy}
use Rattle.std.proofs.lemmas.List.{length-set, get_or-set_same, get_or-set_other}
use Rattle.std.proofs.lemmas.List.Sums.{sum_by-drop_more, sum_by_more, sum_by_more_le}
use Rattle.std.proofs.lemmas.Bool.{cases_eq, cases_lt, ne_eqb}
use Rattle.std.proofs.lemmas.Option.{slice_get_within, get_or_from_slice_get, same_Some, slice_get-get_or, slice_get_read}
use Rattle.std.proofs.lemmas.Bool.Decides.{nat_tests}
use Rattle.job_core.specs.declared.job.JobState.{JobState}
use Rattle.job_core.specs.declared.job.JobState.TheVariants.{Free, Done}
use Rattle.job_core.specs.declared.reaches.Reach.{Reach}
use Rattle.job_core.specs.declared.reaches.PageGroup.{PageGroup}
use Rattle.job_core.specs.declared.reaches.Cursor.{Cursor}
use Rattle.job_core.specs.Jobs.{is_done, is_page_done}
use Rattle.job_core.specs.inside.Reaches.{AreApart, AreGroups, IsAt, HasPut, IsGroup, Waits, all_of, count_of, IsIn, left_of}
use Rattle.job_core.proofs.CountsOfJobs.{bit}
use Rattle.job_core.proofs.OneJobChanges.{slice_get-set_other, slice_get-set_same}

-- ---- the group of a page

pub rising_first : (gs : List PageGroup) → AreApart gs → IsNonDecreasingBy (λ g. g.first) gs
rising_first gs apart = λ i j d le lt. at i j d lt (cases_eq i j) le
  where
    at : (i j : ℕ) (d : PageGroup) → j < length gs → (i ≡ j) ⊎ (i ≡ j → ⊥) → i ≤ j → (get_or gs i d).first ≤ (get_or gs j d).first
    at i j d lt (inl same) le = let e : (get_or gs i d).first ≡ (get_or gs j d).first = ap (λ (n : ℕ). (get_or gs n d).first) same in omega (arith, e)
    at i j d lt (inr other) le =
        let below : i < j = omega (arith, le, other) in
        let here : i < length gs = omega (arith, le, lt) in
        omega (arith, apart i j (get_or gs i d) (get_or gs j d) below (slice_get-get_or gs i d here) (slice_get-get_or gs j d lt))

pub own_group : (gs : List PageGroup) (page after : ℕ) → AreApart gs → after ≤ length gs
    → ((k : ℕ) (d : PageGroup) → k < after → (get_or gs k d).first ≤ page)
    → ((k : ℕ) (d : PageGroup) → after ≤ k → k < length gs → page < (get_or gs k d).first)
    → (k : ℕ) (g : PageGroup) → slice_get gs k ≡ Some g → IsIn g page → k + 1 ≡ after
own_group gs page after apart le low high k g at in_it = by (cases_lt k after)
  where
    here : k < length gs
    here = slice_get_within gs k g at

    is : get_or gs k g ≡ g
    is = get_or_from_slice_get gs k g g at

    last : (n : ℕ) → n < after → k < n → ⊥
    last n lt below =
        let lt' : n < length gs = omega (arith, lt, le) in
        let over = apart k n g (get_or gs n g) below at (slice_get-get_or gs n g lt') in
        let low' = low n g lt in
        omega (arith, over, low', in_it.1)

    by : (k < after) ⊎ (after ≤ k) → k + 1 ≡ after
    by (inr past) =
        let more = high k g past here in
        let e : (get_or gs k g).first ≡ g.first = ap (λ (h : PageGroup). h.first) is in
        absurd (omega (arith, more, e, in_it.0))
    by (inl lt) = by_last (cases_lt (k + 1) after)
      where
        by_last : (k + 1 < after) ⊎ (after ≤ k + 1) → k + 1 ≡ after
        by_last (inl more) = absurd (last (k + 1) more (omega arith))
        by_last (inr end) = omega (arith, end, lt)

-- ---- a reach that is done now

one_more_of : (qs : List Reach) (k n : ℕ) (d : Reach) → k < length qs → count_of n (drop k qs) ≡ bit ((get_or qs k d).launch == n) + count_of n (drop (k + 1) qs)
one_more_of qs k n d lt = sum_by-drop_more (λ (q : Reach). cond (q.launch == n) 1 0) qs k d lt

pub one_waits : (now old : List ℕ) (qs : List Reach) (from k : ℕ) (d : Reach) → k < length qs
    → ((n : ℕ) → get_or now n 0 + count_of n (drop from qs) ≡ get_or old n 0 + count_of n (drop k qs))
    → ((n : ℕ) → count_of n (drop from qs) ≤ get_or old n 0)
    → 1 ≤ get_or now (get_or qs k d).launch 0
one_waits now old qs from k d lt is enough =
    let a = (get_or qs k d).launch in
    let more = one_more_of qs k a d lt in
    let one : bit (a == a) ≡ 1 = grind (arith, nat_tests) in
    omega (arith, is a, enough a, more, one)

pub one_met : (now old : List ℕ) (qs : List Reach) (from k : ℕ) (d : Reach) → k < length qs → (get_or qs k d).launch < length now
    → ((n : ℕ) → get_or now n 0 + count_of n (drop from qs) ≡ get_or old n 0 + count_of n (drop k qs))
    → ((n : ℕ) → count_of n (drop from qs) ≤ get_or old n 0)
    → (n : ℕ) → get_or (set now (get_or qs k d).launch (get_or now (get_or qs k d).launch 0 - 1)) n 0 + count_of n (drop from qs) ≡ get_or old n 0 + count_of n (drop (k + 1) qs)
one_met now old qs from k d lt named is enough n = by (cases_eq n (get_or qs k d).launch)
  where
    a : ℕ
    a = (get_or qs k d).launch

    by : (n ≡ (get_or qs k d).launch) ⊎ (n ≡ (get_or qs k d).launch → ⊥) → get_or (set now (get_or qs k d).launch (get_or now (get_or qs k d).launch 0 - 1)) n 0 + count_of n (drop from qs) ≡ get_or old n 0 + count_of n (drop (k + 1) qs)
    by (inl same) =
        subst (λ (m : ℕ). get_or (set now (get_or qs k d).launch (get_or now (get_or qs k d).launch 0 - 1)) m 0 + count_of m (drop from qs) ≡ get_or old m 0 + count_of m (drop (k + 1) qs)) (sym same) (
        let b = (get_or qs k d).launch in
        let more = one_more_of qs k b d lt in
        let one : bit (b == b) ≡ 1 = grind (arith, nat_tests) in
        let some = one_waits now old qs from k d lt is enough in
        let at = get_or-set_same now b (get_or now b 0 - 1) 0 named in
        omega (arith, at, is b, enough b, more, one, some))
    by (inr other) =
        let b = (get_or qs k d).launch in
        let more = one_more_of qs k n d lt in
        let none : bit (b == n) ≡ 0 = ap bit (ne_eqb b n (λ e. other (sym e))) in
        let at = get_or-set_other now b n (get_or now b 0 - 1) 0 other in
        omega (arith, at, is n, more, none)

pub one_below : (qs : List Reach) (from k done : ℕ) (d : Reach) → k < length qs → (get_or qs k d).count ≤ done
    → ((j : ℕ) (q : Reach) → from ≤ j → j < k → slice_get qs j ≡ Some q → q.count ≤ done)
    → (j : ℕ) (q : Reach) → from ≤ j → j < k + 1 → slice_get qs j ≡ Some q → q.count ≤ done
one_below qs from k done d lt here before j q le below at = by (cases_lt j k)
  where
    by : (j < k) ⊎ (k ≤ j) → q.count ≤ done
    by (inl less) = before j q le less at
    by (inr past) =
        let same : k ≡ j = omega (arith, past, below) in
        let is : (get_or qs k d).count ≡ q.count = ap (λ (n : ℕ). (get_or qs n d).count) same ∙ ap (λ (r : Reach). r.count) (get_or_from_slice_get qs j q d at) in
        omega (arith, here, is)

-- ---- after a put

-- a group none of whose pages was put
pub at_same : (xs ys : List JobState) (g : PageGroup) (c : Cursor) → ((k : ℕ) → k < g.count → is_page_done ys (g.first + k) ≡ is_page_done xs (g.first + k)) → IsAt xs g c → IsAt ys g c
at_same xs ys g c same at = record {
  within = at.within;
  done = λ k lt. let below : k < g.count = omega (arith, lt, at.within) in same k below ∙ at.done k lt;
  stops = λ lt. same c.done lt ∙ at.stops lt;
  some = at.some;
  met = at.met;
  still = at.still;
}

page_set_other : (xs : List JobState) (page p : ℕ) (x : JobState) → p ≢ page → is_page_done (set xs page x) p ≡ is_page_done xs p
page_set_other xs page p x other = ap is_done (get_or-set_other xs page p x Free other)

page_set_same : (xs : List JobState) (page : ℕ) → page < length xs → is_page_done (set xs page Done) page ≡ true
page_set_same xs page lt = ap is_done (get_or-set_same xs page Done Free lt)

-- what was done stays so
done_set : (xs : List JobState) (page p : ℕ) → page < length xs → is_page_done xs p ≡ true → is_page_done (set xs page Done) p ≡ true
done_set xs page p lt is = by (cases_eq p page)
  where
    by : (p ≡ page) ⊎ (p ≡ page → ⊥) → is_page_done (set xs page Done) p ≡ true
    by (inl same) = ap (is_page_done (set xs page Done)) same ∙ page_set_same xs page lt
    by (inr other) = page_set_other xs page p Done other ∙ is

-- a page that is in no group, or in another one
pub at_other : (xs : List JobState) (page : ℕ) (g : PageGroup) (c : Cursor) → (IsIn g page → ⊥) → IsAt xs g c → IsAt (set xs page Done) g c
at_other xs page g c out at = at_same xs (set xs page Done) g c (λ k lt. page_set_other xs page (g.first + k) Done (λ same. out (omega (arith, same), omega (arith, same, lt)))) at

-- the group that has the page
pub at_own : (xs : List JobState) (page : ℕ) (g : PageGroup) (c : Cursor) (done met : ℕ) → page < length xs → IsAt xs g c
    → (c.done ≤ done) × (done ≤ g.count)
    → ((k : ℕ) → c.done ≤ k → k < done → is_page_done (set xs page Done) (g.first + k) ≡ true)
    → (done < g.count → is_page_done (set xs page Done) (g.first + done) ≡ false)
    → (c.met ≤ met) × (met ≤ length g.reaches.items)
    → ((k : ℕ) (q : Reach) → c.met ≤ k → k < met → slice_get g.reaches.items k ≡ Some q → q.count ≤ done)
    → ((k : ℕ) (q : Reach) → met ≤ k → slice_get g.reaches.items k ≡ Some q → done < q.count)
    → IsAt (set xs page Done) g (record { done = done; met = met })
at_own xs page g c done met lt at within dones stops some mets opens = record {
  within = within.1;
  done = λ k below. done_by k below (cases_lt k c.done);
  stops = stops;
  some = some.1;
  met = λ k q below is. met_by k q below is (cases_lt k c.met);
  still = opens;
}
  where
    done_by : (k : ℕ) → k < done → (k < c.done) ⊎ (c.done ≤ k) → is_page_done (set xs page Done) (g.first + k) ≡ true
    done_by k below (inl low) = done_set xs page (g.first + k) lt (at.done k low)
    done_by k below (inr high) = dones k high below

    met_by : (k : ℕ) (q : Reach) → k < met → slice_get g.reaches.items k ≡ Some q → (k < c.met) ⊎ (c.met ≤ k) → q.count ≤ done
    met_by k q below is (inl low) = let before = at.met k q low is in omega (arith, before, within.0)
    met_by k q below is (inr high) = mets k q high below is

-- one cursor goes on, and what launches wait for changes by its reaches
pub left_set : (n : ℕ) (gs : List PageGroup) (cs : List Cursor) (i : ℕ) (g : PageGroup) (c d : Cursor) → slice_get gs i ≡ Some g → slice_get cs i ≡ Some c
    → left_of n gs (set cs i d) + count_of n (drop c.met g.reaches.items) ≡ left_of n gs cs + count_of n (drop d.met g.reaches.items)
left_set n [] cs i g c d gat cat = cc
left_set n (h ∷ gs) [] i g c d gat cat = cc
left_set n (h ∷ gs) (b ∷ cs) zero g c d gat cat =
    let hg : count_of n (drop d.met h.reaches.items) ≡ count_of n (drop d.met g.reaches.items) = ap (λ (x : PageGroup). count_of n (drop d.met x.reaches.items)) (same_Some h g gat) in
    let bc : count_of n (drop b.met h.reaches.items) ≡ count_of n (drop c.met h.reaches.items) = ap (λ (x : Cursor). count_of n (drop x.met h.reaches.items)) (same_Some b c cat) in
    let hc : count_of n (drop c.met h.reaches.items) ≡ count_of n (drop c.met g.reaches.items) = ap (λ (x : PageGroup). count_of n (drop c.met x.reaches.items)) (same_Some h g gat) in
    omega (arith, hg, bc, hc)
left_set n (h ∷ gs) (b ∷ cs) (suc i) g c d gat cat = omega (arith, left_set n gs cs i g c d gat cat)

-- what launches wait for in one group is among all that they wait for
pub left_part : (n : ℕ) (gs : List PageGroup) (cs : List Cursor) (i : ℕ) (g : PageGroup) (c : Cursor) → slice_get gs i ≡ Some g → slice_get cs i ≡ Some c
    → count_of n (drop c.met g.reaches.items) ≤ left_of n gs cs
left_part n [] cs i g c gat cat = cc
left_part n (h ∷ gs) [] i g c gat cat = cc
left_part n (h ∷ gs) (b ∷ cs) zero g c gat cat =
    let hg : count_of n (drop b.met h.reaches.items) ≡ count_of n (drop b.met g.reaches.items) = ap (λ (x : PageGroup). count_of n (drop b.met x.reaches.items)) (same_Some h g gat) in
    let bc : count_of n (drop b.met g.reaches.items) ≡ count_of n (drop c.met g.reaches.items) = ap (λ (x : Cursor). count_of n (drop x.met g.reaches.items)) (same_Some b c cat) in
    omega (arith, hg, bc)
left_part n (h ∷ gs) (b ∷ cs) (suc i) g c gat cat = omega (arith, left_part n gs cs i g c gat cat)

-- a page of no group
pub waits_none : (xs : List JobState) (page : ℕ) (gs : List PageGroup) (cs : List Cursor) (lefts : List ℕ) → Waits xs gs cs lefts
    → ((k : ℕ) (g : PageGroup) → slice_get gs k ≡ Some g → IsIn g page → ⊥) → Waits (set xs page Done) gs cs lefts
waits_none xs page gs cs lefts w out = record {
  groups = subst (λ (n : ℕ). AreGroups n (length lefts) gs) (sym (length-set xs page Done)) w.groups;
  size = w.size;
  at = λ i g c gat cat. at_other xs page g c (out i g gat) (w.at i g c gat cat);
  left = w.left;
}

-- a page of one group
pub waits_one : (xs : List JobState) (page : ℕ) (gs : List PageGroup) (cs : List Cursor) (lefts new : List ℕ) (i : ℕ) (g : PageGroup) (c d : Cursor) → Waits xs gs cs lefts
    → ((k : ℕ) (h : PageGroup) → slice_get gs k ≡ Some h → IsIn h page → k ≡ i)
    → slice_get gs i ≡ Some g → slice_get cs i ≡ Some c → IsAt (set xs page Done) g d
    → length new ≡ length lefts
    → ((n : ℕ) → get_or new n 0 + count_of n (drop c.met g.reaches.items) ≡ get_or lefts n 0 + count_of n (drop d.met g.reaches.items))
    → Waits (set xs page Done) gs (set cs i d) new
waits_one xs page gs cs lefts new i g c d w own gat cat at size is = record {
  groups = subst (λ (n : ℕ). AreGroups (length (set xs page Done)) n gs) (sym size) (subst (λ (n : ℕ). AreGroups n (length lefts) gs) (sym (length-set xs page Done)) w.groups);
  size = length-set cs i d ∙ w.size;
  at = λ k h e hat eat. at_by k h e hat eat (cases_eq k i);
  left = λ n. let set_is = left_set n gs cs i g c d gat cat in omega (arith, set_is, is n, w.left n);
}
  where
    at_by : (k : ℕ) (h : PageGroup) (e : Cursor) → slice_get gs k ≡ Some h → slice_get (set cs i d) k ≡ Some e → (k ≡ i) ⊎ (k ≡ i → ⊥) → IsAt (set xs page Done) h e
    at_by k h e hat eat (inl same) =
        let hg : g ≡ h = same_Some g h (sym gat ∙ (ap (slice_get gs) (sym same) ∙ hat)) in
        let ed : d ≡ e = same_Some d e (sym (slice_get-set_same cs i c d cat) ∙ (ap (slice_get (set cs i d)) (sym same) ∙ eat)) in
        subst (λ (u : Cursor). IsAt (set xs page Done) h u) ed (subst (λ (u : PageGroup). IsAt (set xs page Done) u d) hg at)
    at_by k h e hat eat (inr other) =
        at_other xs page h e (λ in_it. other (own k h hat in_it)) (w.at k h e hat (sym (slice_get-set_other cs i k d (ne_eqb k i other)) ∙ eat))

-- what is known at a group's place after a page was put
pub record PutHere (before pages : List JobState) (lefts : List ℕ) (gs : List PageGroup) (cs : List Cursor) (i : ℕ) (g : PageGroup) (c : Cursor) : Type 0 where
  pub group : slice_get gs i ≡ Some g
  pub cursor : slice_get cs i ≡ Some c
  pub at : IsAt before g c
  pub is : IsGroup (length pages) (length lefts) g
  pub counted : (n : ℕ) → count_of n (drop c.met g.reaches.items) ≤ get_or lefts n 0

pub put_here : (pages : List JobState) (page : ℕ) (gs : List PageGroup) (cs : List Cursor) (lefts : List ℕ) (h : HasPut pages page gs cs lefts) (i : ℕ) (g : PageGroup) (d : Cursor)
    → i < length gs → g ≡ get_or gs i g → PutHere h.0 pages lefts gs cs i g (get_or cs i d)
put_here pages page gs cs lefts h i g d lt is = record {
  group = gat;
  cursor = cat;
  at = h.1.at i g (get_or cs i d) gat cat;
  is = subst (λ (n : ℕ). IsGroup n (length lefts) g) (sym (ap length h.3 ∙ length-set h.0 page Done)) (h.1.groups.each i g gat);
  counted = λ n. let part = left_part n gs cs i g (get_or cs i d) gat cat in omega (arith, part, h.1.left n);
}
  where
    gat : slice_get gs i ≡ Some g
    gat = slice_get_read gs (length gs) i g refl lt is

    cat : slice_get cs i ≡ Some (get_or cs i d)
    cat = slice_get-get_or cs i d (omega (arith, lt, h.1.size))

pub put_none : (pages : List JobState) (page : ℕ) (gs : List PageGroup) (cs : List Cursor) (lefts : List ℕ) → HasPut pages page gs cs lefts
    → ((k : ℕ) (g : PageGroup) → slice_get gs k ≡ Some g → IsIn g page → ⊥) → Waits pages gs cs lefts
put_none pages page gs cs lefts h out = subst (λ (xs : List JobState). Waits xs gs cs lefts) (sym h.3) (waits_none h.0 page gs cs lefts h.1 out)

pub put_one : (pages : List JobState) (page : ℕ) (gs : List PageGroup) (cs : List Cursor) (lefts new : List ℕ) (h : HasPut pages page gs cs lefts) (i : ℕ) (g : PageGroup) (c : Cursor) (done met : ℕ)
    → PutHere h.0 pages lefts gs cs i g c
    → ((k : ℕ) (u : PageGroup) → slice_get gs k ≡ Some u → IsIn u page → k ≡ i)
    → (c.done ≤ done) × (done ≤ g.count)
    → ((k : ℕ) → c.done ≤ k → k < done → is_page_done pages (g.first + k) ≡ true)
    → (done < g.count → is_page_done pages (g.first + done) ≡ false)
    → (c.met ≤ met) × (met ≤ length g.reaches.items)
    → ((k : ℕ) (q : Reach) → c.met ≤ k → k < met → slice_get g.reaches.items k ≡ Some q → q.count ≤ done)
    → ((k : ℕ) (q : Reach) → met ≤ k → slice_get g.reaches.items k ≡ Some q → done < q.count)
    → length new ≡ length lefts
    → ((n : ℕ) → get_or new n 0 + count_of n (drop c.met g.reaches.items) ≡ get_or lefts n 0 + count_of n (drop met g.reaches.items))
    → Waits pages gs (set cs i (record { done = done; met = met })) new
put_one pages page gs cs lefts new h i g c done met here own within dones stops some mets opens size is =
    let d : Cursor = record { done = done; met = met } in
    let dones' : (k : ℕ) → c.done ≤ k → k < done → is_page_done (set h.0 page Done) (g.first + k) ≡ true = λ k le lt. subst (λ (xs : List JobState). is_page_done xs (g.first + k) ≡ true) h.3 (dones k le lt) in
    let stops' : done < g.count → is_page_done (set h.0 page Done) (g.first + done) ≡ false = λ lt. subst (λ (xs : List JobState). is_page_done xs (g.first + done) ≡ false) h.3 (stops lt) in
    let at = at_own h.0 page g c done met h.2 here.at within dones' stops' some mets opens in
    subst (λ (xs : List JobState). Waits xs gs (set cs i d) new) (sym h.3) (waits_one h.0 page gs cs lefts new i g c d h.1 own here.group here.cursor at size is)

-- ---- reaches counted

pub one_fits : (now old : List ℕ) (qs : List Reach) (k : ℕ) (d : Reach) → k < length qs
    → ((n : ℕ) → get_or now n 0 ≡ get_or old n 0 + count_of n (take k qs)) → (bound : ℕ) → ((n : ℕ) → get_or old n 0 + count_of n qs < bound)
    → get_or now (get_or qs k d).launch 0 + 1 < bound
one_fits now old qs k d lt is bound few =
    let a = (get_or qs k d).launch in
    let more = sum_by_more_le (λ (q : Reach). cond (q.launch == a) 1 0) qs k d lt in
    let one : bit (a == a) ≡ 1 = grind (arith, nat_tests) in
    omega (arith, more, one, is a, few a)

pub one_counted : (now old : List ℕ) (qs : List Reach) (k : ℕ) (d : Reach) → k < length qs → (get_or qs k d).launch < length now
    → ((n : ℕ) → get_or now n 0 ≡ get_or old n 0 + count_of n (take k qs))
    → (n : ℕ) → get_or (set now (get_or qs k d).launch (get_or now (get_or qs k d).launch 0 + 1)) n 0 ≡ get_or old n 0 + count_of n (take (k + 1) qs)
one_counted now old qs k d lt named is n = by (cases_eq n (get_or qs k d).launch)
  where
    by : (n ≡ (get_or qs k d).launch) ⊎ (n ≡ (get_or qs k d).launch → ⊥) → get_or (set now (get_or qs k d).launch (get_or now (get_or qs k d).launch 0 + 1)) n 0 ≡ get_or old n 0 + count_of n (take (k + 1) qs)
    by (inl same) =
        subst (λ (m : ℕ). get_or (set now (get_or qs k d).launch (get_or now (get_or qs k d).launch 0 + 1)) m 0 ≡ get_or old m 0 + count_of m (take (k + 1) qs)) (sym same) (
        let b = (get_or qs k d).launch in
        let more = sum_by_more (λ (q : Reach). cond (q.launch == b) 1 0) qs k d lt in
        let one : bit (b == b) ≡ 1 = grind (arith, nat_tests) in
        let at = get_or-set_same now b (get_or now b 0 + 1) 0 named in
        omega (arith, at, is b, more, one))
    by (inr other) =
        let b = (get_or qs k d).launch in
        let more = sum_by_more (λ (q : Reach). cond (q.launch == n) 1 0) qs k d lt in
        let none : bit (b == n) ≡ 0 = ap bit (ne_eqb b n (λ e. other (sym e))) in
        let at = get_or-set_other now b n (get_or now b 0 + 1) 0 other in
        omega (arith, at, is n, more, none)

pub all_fit : (now : List ℕ) (gs : List PageGroup) (i : ℕ) (g : PageGroup) → i < length gs → g ≡ get_or gs i g
    → ((n : ℕ) → get_or now n 0 ≡ all_of n (take i gs)) → (bound : ℕ) → ((n : ℕ) → all_of n gs < bound)
    → (n : ℕ) → get_or now n 0 + count_of n g.reaches.items < bound
all_fit now gs i g lt is counted bound few n =
    let more = sum_by_more_le (λ (h : PageGroup). count_of n h.reaches.items) gs i g lt in
    let same : count_of n (get_or gs i g).reaches.items ≡ count_of n g.reaches.items = ap (λ (h : PageGroup). count_of n h.reaches.items) (sym is) in
    omega (arith, more, same, counted n, few n)
