-- A launch is ready exactly where none of its reaches is left.
use Rattle.std.proofs.Common.{◌≡◌, ℕ, zero, suc, ◌+◌, ◌<◌, ◌≤◌, Bool, true, false, cond, ◌&&◌, List, [], ◌∷◌, ◌++◌, length, get_or, drop, map, replicate, Some, refl, sym, ap, ◌∙◌, subst, arith, inl, inr}
use Rattle.std.specs.Prelude.{◌==◌, ◌⊎◌, if◌then◌else◌}
use Rattle.std.specs.List.{flat_map, list_all, range_with_len, slice_get}
use Rattle.std.proofs.lemmas.List.{length-replicate, get_or_past}
use Rattle.std.proofs.lemmas.List.Folds.{list_all-append, list_all_at}
use Rattle.std.proofs.lemmas.List.FromFn.{get_or-map-range_with_len, get_or-range_with_len, length-map-range_with_len, length-range_with_len}
use Rattle.std.proofs.lemmas.List.Sums.{sum_by-cons}
use Rattle.std.proofs.lemmas.Bool.{and_from, cases_lt, ne_eqb}
use Rattle.std.proofs.lemmas.Bool.Decides.{nat_tests}
use Rattle.job_core.specs.declared.job.JobId.TheVariants.{Launch}
use Rattle.job_core.specs.declared.job.JobState.{JobState}
use Rattle.job_core.specs.declared.job.JobState.TheVariants.{Free}
use Rattle.job_core.specs.declared.reaches.Reach.{Reach}
use Rattle.job_core.specs.declared.reaches.PageGroup.{PageGroup}
use Rattle.job_core.specs.declared.reaches.Cursor.{Cursor}
use Rattle.job_core.specs.Jobs.{CoreState, is_page_done, is_ready}
use Rattle.job_core.specs.inside.Reaches.{AreGroups, IsAt, IsGroup, IsIndex, Waits, all_of, count_of, group_needs, left_of, reach_needs}
use Rattle.job_core.proofs.CountsOfJobs.{bit}

range_all : (f : ℕ → Bool) (a n : ℕ) → ((k : ℕ) → k < n → f (a + k) ≡ true) → list_all f (range_with_len a n) ≡ true
range_all f a zero h = refl
range_all f a (suc n) h =
    let at : a ≡ a + 0 = omega arith in
    let some : 0 < suc n = omega arith in
    and_from (f a) (list_all f (range_with_len (a + 1) n)) (ap f at ∙ h 0 some) (range_all f (a + 1) n (λ k lt.
    let next : a + 1 + k ≡ a + suc k = omega arith in
    let more : suc k < suc n = omega (arith, lt) in
    ap f next ∙ h (suc k) more))

range_not : (f : ℕ → Bool) (a n k : ℕ) → k < n → f (a + k) ≡ false → list_all f (range_with_len a n) ≡ false
range_not f a n k lt fail =
    let within : k < length (range_with_len a n) = omega (arith, lt, length-range_with_len a n) in
    list_all_at f (range_with_len a n) k 0 within (ap f (get_or-range_with_len a n k 0 lt) ∙ fail)

-- ---- one group

met_step : (f : ℕ → Bool) (b : Bool) (xs rest : List ℕ) → list_all f xs ≡ true → list_all f ((if b then xs else []) ++ rest) ≡ list_all f rest
met_step f true xs rest pass = list_all-append f xs rest ∙ ap (λ (c : Bool). c && list_all f rest) pass
met_step f false xs rest pass = refl

open_step : (f : ℕ → Bool) (b : Bool) (n : ℕ) (xs rest : List ℕ) → list_all f xs ≡ false → (n == 0) ≡ list_all f rest → (bit b + n == 0) ≡ list_all f ((if b then xs else []) ++ rest)
open_step f true n xs rest fail same =
    let some : (1 + n == 0) ≡ false = grind (arith, nat_tests) in
    some ∙ sym (list_all-append f xs rest ∙ ap (λ (c : Bool). c && list_all f rest) fail)
open_step f false n xs rest fail same = let e : 0 + n ≡ n = omega arith in ap (λ (m : ℕ). m == 0) e ∙ same

ready_group : (f : ℕ → Bool) (l first : ℕ) (qs : List Reach) (met : ℕ)
    → ((k : ℕ) (q : Reach) → k < met → slice_get qs k ≡ Some q → list_all f (range_with_len first q.count) ≡ true)
    → ((k : ℕ) (q : Reach) → met ≤ k → slice_get qs k ≡ Some q → list_all f (range_with_len first q.count) ≡ false)
    → (count_of l (drop met qs) == 0) ≡ list_all f (flat_map (λ (q : Reach). if q.launch == l then range_with_len first q.count else []) qs)
ready_group f l first [] zero pass fail = refl
ready_group f l first [] (suc met) pass fail = refl
ready_group f l first (q ∷ qs) zero pass fail =
    let here : list_all f (range_with_len first q.count) ≡ false = fail 0 q (omega arith) refl in
    let rest = ready_group f l first qs zero (λ k r lt at. absurd (omega (arith, lt))) (λ k r le at. fail (suc k) r (omega arith) at) in
    ap (λ (n : ℕ). n == 0) (sum_by-cons (λ (r : Reach). cond (r.launch == l) 1 0) q qs) ∙ open_step f (q.launch == l) (count_of l qs) (range_with_len first q.count) (flat_map (λ (r : Reach). if r.launch == l then range_with_len first r.count else []) qs) here rest
ready_group f l first (q ∷ qs) (suc met) pass fail =
    let here : list_all f (range_with_len first q.count) ≡ true = pass 0 q (omega arith) refl in
    let rest = ready_group f l first qs met (λ k r lt at. pass (suc k) r (omega (arith, lt)) at) (λ k r le at. fail (suc k) r (omega (arith, le)) at) in
    rest ∙ sym (met_step f (q.launch == l) (range_with_len first q.count) (flat_map (λ (r : Reach). if r.launch == l then range_with_len first r.count else []) qs) here)

group_at : (pages : List JobState) (l : ℕ) (g : PageGroup) (c : Cursor) → ((k : ℕ) (q : Reach) → slice_get g.reaches.items k ≡ Some q → q.count ≤ g.count) → IsAt pages g c
    → (count_of l (drop c.met g.reaches.items) == 0) ≡ list_all (is_page_done pages) (group_needs l g)
group_at pages l g c within at = ready_group (is_page_done pages) l g.first g.reaches.items c.met
    (λ k q lt is. let le = at.met k q lt is in range_all (is_page_done pages) g.first q.count (λ j below. at.done j (omega (arith, le, below))))
    (λ k q le is. let lt = at.still k q le is in let in_group = within k q is in range_not (is_page_done pages) g.first q.count c.done lt (at.stops (omega (arith, lt, in_group))))

-- ---- all groups

none_both : (a b : ℕ) → (a + b == 0) ≡ (a == 0) && (b == 0)
none_both zero b = let e : 0 + b ≡ b = omega arith in ap (λ (n : ℕ). n == 0) e
none_both (suc a) b = let e : (suc a + b == 0) ≡ false = grind (arith, nat_tests) in let o : (suc a == 0) ≡ false = grind (arith, nat_tests) in e ∙ ap (λ (c : Bool). c && (b == 0)) (sym o)

ready_groups : (pages : List JobState) (l : ℕ) (gs : List PageGroup) (cs : List Cursor) → length cs ≡ length gs
    → ((i k : ℕ) (g : PageGroup) (q : Reach) → slice_get gs i ≡ Some g → slice_get g.reaches.items k ≡ Some q → q.count ≤ g.count)
    → ((i : ℕ) (g : PageGroup) (c : Cursor) → slice_get gs i ≡ Some g → slice_get cs i ≡ Some c → IsAt pages g c)
    → (left_of l gs cs == 0) ≡ list_all (is_page_done pages) (reach_needs gs l)
ready_groups pages l [] cs size within at = refl
ready_groups pages l (g ∷ gs) [] size within at = absurd (omega (arith, size))
ready_groups pages l (g ∷ gs) (c ∷ cs) size within at =
    let here = group_at pages l g c (λ k q is. within 0 k g q refl is) (at 0 g c refl refl) in
    let size' : length cs ≡ length gs = omega (arith, size) in
    let rest = ready_groups pages l gs cs size' (λ i k h q hat is. within (suc i) k h q hat is) (λ i h d hat dat. at (suc i) h d hat dat) in
    none_both (count_of l (drop c.met g.reaches.items)) (left_of l gs cs)
    ∙ (ap (λ (b : Bool). b && (left_of l gs cs == 0)) here
    ∙ (ap (λ (b : Bool). list_all (is_page_done pages) (group_needs l g) && b) rest
    ∙ sym (list_all-append (is_page_done pages) (group_needs l g) (reach_needs gs l))))

-- a launch waits for nothing exactly where it is ready
pub ready_index : (s : CoreState) (gs : List PageGroup) (cs : List Cursor) (lefts : List ℕ) (l : ℕ) → Waits s.pages gs cs lefts → IsIndex s.needs gs
    → (get_or lefts l 0 == 0) ≡ is_ready s (Launch l)
ready_index s gs cs lefts l w index =
    ap (λ (n : ℕ). n == 0) (w.left l)
    ∙ (ready_groups s.pages l gs cs w.size (λ i k g q gat is. ((w.groups.each i g gat).named k q is).2) w.at ∙ index l (is_page_done s.pages))

-- ---- a fresh core

left_fresh : (l : ℕ) (gs : List PageGroup) (d : Cursor) → d.met ≡ 0 → left_of l gs (replicate (length gs) d) ≡ all_of l gs
left_fresh l [] d none = refl
left_fresh l (g ∷ gs) d none =
    let here : count_of l (drop d.met g.reaches.items) ≡ count_of l g.reaches.items = ap (λ (n : ℕ). count_of l (drop n g.reaches.items)) none in
    omega (arith, here, left_fresh l gs d none, sum_by-cons (λ (h : PageGroup). count_of l h.reaches.items) g gs)

free_page : (n p : ℕ) → is_page_done (replicate n Free) p ≡ false
free_page zero p = refl
free_page (suc n) zero = refl
free_page (suc n) (suc p) = free_page n p

at_fresh : (n launches : ℕ) (g : PageGroup) → IsGroup n launches g → IsAt (replicate n Free) g (record { done = 0; met = 0 })
at_fresh n launches g is = record {
  within = omega arith;
  done = λ k lt. absurd (omega (arith, lt));
  stops = λ lt. free_page n (g.first + 0);
  some = omega arith;
  met = λ k q lt at. absurd (omega (arith, lt));
  still = λ k q le at. (is.named k q at).1;
}

same_cursor : (n i : ℕ) (d c : Cursor) → slice_get (replicate n d) i ≡ Some c → d ≡ c
same_cursor zero i d c at = cc
same_cursor (suc n) zero d c at = cc
same_cursor (suc n) (suc i) d c at = same_cursor n i d c at

abbrev pub start : Cursor
start = record { done = 0; met = 0 }

pub waits_fresh : (pages : ℕ) (gs : List PageGroup) (lefts : List ℕ) → AreGroups pages (length lefts) gs → ((l : ℕ) → get_or lefts l 0 ≡ all_of l gs)
    → Waits (replicate pages Free) gs (replicate (length gs) (record { done = 0; met = 0 })) lefts
waits_fresh pages gs lefts are counted = record {
  groups = subst (λ (n : ℕ). AreGroups n (length lefts) gs) (sym (length-replicate pages Free)) are;
  size = length-replicate (length gs) start;
  at = λ i g c gat cat. subst (λ (d : Cursor). IsAt (replicate pages Free) g d) (same_cursor (length gs) i start c cat) (at_fresh pages (length lefts) g (are.each i g gat));
  left = λ l. counted l ∙ sym (left_fresh l gs start refl);
}

-- ---- what launches need, by reaches

no_group : (l launches : ℕ) (first : ℕ) (qs : List Reach) → launches ≤ l → ((k : ℕ) (q : Reach) → slice_get qs k ≡ Some q → q.launch < launches)
    → flat_map (λ (q : Reach). if q.launch == l then range_with_len first q.count else []) qs ≡ []
no_group l launches first [] past named = refl
no_group l launches first (q ∷ qs) past named =
    let lt = named 0 q refl in
    let fail : (q.launch == l) ≡ false = ne_eqb q.launch l (λ e. omega (arith, e, lt, past)) in
    ap (λ (b : Bool). (if b then range_with_len first q.count else []) ++ flat_map (λ (r : Reach). if r.launch == l then range_with_len first r.count else []) qs) fail
    ∙ no_group l launches first qs past (λ k r at. named (suc k) r at)

no_needs : (l launches : ℕ) (gs : List PageGroup) → launches ≤ l → ((i k : ℕ) (g : PageGroup) (q : Reach) → slice_get gs i ≡ Some g → slice_get g.reaches.items k ≡ Some q → q.launch < launches)
    → reach_needs gs l ≡ []
no_needs l launches [] past named = refl
no_needs l launches (g ∷ gs) past named =
    let here = no_group l launches g.first g.reaches.items past (λ k q at. named 0 k g q refl at) in
    ap (λ (xs : List ℕ). xs ++ reach_needs gs l) here ∙ no_needs l launches gs past (λ i k h q hat at. named (suc i) k h q hat at)

pub reach_index : (pages launches : ℕ) (gs : List PageGroup) → AreGroups pages launches gs → IsIndex (map (reach_needs gs) (range_with_len 0 launches)) gs
reach_index pages launches gs are l f = by (cases_lt l launches)
  where
    by : (l < launches) ⊎ (launches ≤ l) → list_all f (reach_needs gs l) ≡ list_all f (get_or (map (reach_needs gs) (range_with_len 0 launches)) l [])
    by (inl lt) = ap (list_all f) (sym (get_or-map-range_with_len (reach_needs gs) 0 launches l l [] lt (omega arith)))
    by (inr past) =
        let none = no_needs l launches gs past (λ i k g q gat at. ((are.each i g gat).named k q at).0) in
        let end : get_or (map (reach_needs gs) (range_with_len 0 launches)) l [] ≡ [] = get_or_past (map (reach_needs gs) (range_with_len 0 launches)) l [] (omega (arith, past, length-map-range_with_len (reach_needs gs) 0 launches)) in
        ap (list_all f) (none ∙ sym end)

pub zeros : (n l : ℕ) → get_or (replicate n 0) l 0 ≡ zero
zeros zero l = refl
zeros (suc n) zero = refl
zeros (suc n) (suc l) = zeros n l
