-- The line has each launch that waits for nothing, and has room for all others.
use Rattle.std.proofs.Common.{◌≡◌, ◌≢◌, ℕ, ◌+◌, ◌<◌, ◌≤◌, true, false, cond, eqb, List, [], ◌∷◌, ◌++◌, length, get_or, set, take, Option, Some, None, refl, sym, ap, ◌∙◌, subst, arith, inl, inr}
use Rattle.std.specs.Prelude.{◌⊎◌, nat_lt, IfNone, IfSome}
use Rattle.std.specs.List.{All, Contains, count_by, slice_get}
use Rattle.std.proofs.lemmas.List.{get_or-set_same, get_or-set_other, get_or_past, get_or_append_left, get_or_default, length-set, length-append, length_push}
use Rattle.std.proofs.lemmas.List.Elements.{All-push, Contains-append_left, Contains-push}
use Rattle.std.proofs.lemmas.List.Sums.{count_by_more_no, count_by_more_yes, sum_by-set}
use Rattle.std.proofs.lemmas.Bool.{cases_eq, cases_lt, eq-eqb, ne_eqb}
use Rattle.std.proofs.lemmas.Option.{get_or_from_slice_get, slice_get_within, slice_get-get_or}
use Rattle.std.proofs.lemmas.Bool.Decides.{nat_tests}
use Rattle.job_core.specs.declared.job.JobState.{JobState}
use Rattle.job_core.specs.declared.job.JobId.{JobId}
use Rattle.job_core.specs.declared.job.JobId.TheVariants.{Page, Launch}
use Rattle.job_core.specs.declared.job.JobState.TheVariants.{Free, Held, Done}
use Rattle.job_core.specs.Jobs.{CoreState, is_free, is_ready, state_of, with_launch}
use Rattle.job_core.specs.inside.Lines.{IsLine, IsPassed, passed_over}
use Rattle.job_core.specs.declared.reaches.Cursor.{Cursor}
use Rattle.job_core.specs.declared.reaches.PageGroup.{PageGroup}
use Rattle.job_core.specs.inside.Reaches.{IsIndex, Waits}
use Rattle.job_core.proofs.ReadyByReaches.{ready_index}
use Rattle.job_core.proofs.CoreCounts.{not_free_at}

abbrev pub waiting : ℕ → ℕ
waiting n = cond (nat_lt 0 n) 1 0

one_of : (n : ℕ) → 1 ≤ n → waiting n ≡ 1
one_of n some = grind (arith, nat_tests)

pub there : (lefts : List ℕ) (a : ℕ) → 1 ≤ get_or lefts a 0 → a < length lefts
there lefts a some = by (cases_lt a (length lefts))
  where
    by : (a < length lefts) ⊎ (length lefts ≤ a) → a < length lefts
    by (inl lt) = lt
    by (inr past) = let none = get_or_past lefts a 0 past in absurd (omega (arith, none, some))

count_set : (lefts : List ℕ) (a n : ℕ) → 1 ≤ get_or lefts a 0 → count_by (nat_lt 0) (set lefts a n) + 1 ≡ count_by (nat_lt 0) lefts + waiting n
count_set lefts a n some =
    let is = sum_by-set (λ (m : ℕ). cond (nat_lt 0 m) 1 0) lefts a n 0 (there lefts a some) in
    omega (arith, is, one_of (get_or lefts a 0) some)

only_set : (lefts ready : List ℕ) (a n : ℕ) → 1 ≤ get_or lefts a 0 → All (λ l. get_or lefts l 0 ≡ 0) ready → All (λ l. get_or (set lefts a n) l 0 ≡ 0) ready
only_set lefts ready a n some only = λ k d lt. by k d lt (cases_eq (get_or ready k d) a)
  where
    by : (k d : ℕ) → k < length ready → (get_or ready k d ≡ a) ⊎ (get_or ready k d ≡ a → ⊥) → get_or (set lefts a n) (get_or ready k d) 0 ≡ 0
    by k d lt (inl same) = let none = only k d lt in let e : get_or lefts (get_or ready k d) 0 ≡ get_or lefts a 0 = ap (λ (l : ℕ). get_or lefts l 0) same in absurd (omega (arith, none, e, some))
    by k d lt (inr other) = get_or-set_other lefts a (get_or ready k d) n 0 other ∙ only k d lt

-- it comes into line
pub line_join : (lefts ready : List ℕ) (room a : ℕ) → 1 ≤ get_or lefts a 0 → IsLine lefts ready room → IsLine (set lefts a 0) (ready ++ a ∷ []) room
line_join lefts ready room a some line = record {
  every = λ l lt none. every_by l lt none (cases_eq l a);
  only = All-push (λ l. get_or (set lefts a 0) l 0 ≡ 0) ready a (only_set lefts ready a 0 some line.only) (get_or-set_same lefts a 0 0 (there lefts a some));
  room_left = let c = count_set lefts a 0 some in omega (arith, c, line.room_left, length_push ready a);
}
  where
    every_by : (l : ℕ) → l < length (set lefts a 0) → get_or (set lefts a 0) l 0 ≡ 0 → (l ≡ a) ⊎ (l ≡ a → ⊥) → Contains (ready ++ a ∷ []) l
    every_by l lt none (inl same) = subst (Contains (ready ++ a ∷ [])) (sym same) (Contains-push ready a)
    every_by l lt none (inr other) =
        let lt' : l < length lefts = omega (arith, lt, length-set lefts a 0) in
        Contains-append_left ready (a ∷ []) l (line.every l lt' (sym (get_or-set_other lefts a l 0 0 other) ∙ none))

-- ---- the line at first

pub record IsBegun (lefts ready : List ℕ) (n room : ℕ) : Type 0 where
  pub every : (l : ℕ) → l < n → get_or lefts l 0 ≡ 0 → Contains ready l
  pub only : All (λ l. get_or lefts l 0 ≡ 0) ready
  pub count : length ready + count_by (nat_lt 0) (take n lefts) ≡ n
  pub room_is : length lefts ≤ room

pub begun_more : (lefts ready : List ℕ) (n room : ℕ) → n < length lefts → get_or lefts n 0 ≡ 0 → IsBegun lefts ready n room → IsBegun lefts (ready ++ n ∷ []) (n + 1) room
begun_more lefts ready n room lt none b = record {
  every = λ l below zero_at. every_by l below zero_at (cases_lt l n);
  only = All-push (λ l. get_or lefts l 0 ≡ 0) ready n b.only none;
  count = let no_more = count_by_more_no (nat_lt 0) lefts n 0 lt (let t : nat_lt 0 (get_or lefts n 0) ≡ false = ap (nat_lt 0) none in t) in omega (arith, no_more, b.count, length_push ready n);
  room_is = b.room_is;
}
  where
    every_by : (l : ℕ) → l < n + 1 → get_or lefts l 0 ≡ 0 → (l < n) ⊎ (n ≤ l) → Contains (ready ++ n ∷ []) l
    every_by l below zero_at (inl less) = Contains-append_left ready (n ∷ []) l (b.every l less zero_at)
    every_by l below zero_at (inr past) = let same : n ≡ l = omega (arith, below, past) in subst (Contains (ready ++ n ∷ [])) same (Contains-push ready n)

pub begun_skip : (lefts ready : List ℕ) (n room : ℕ) → n < length lefts → get_or lefts n 0 ≢ 0 → IsBegun lefts ready n room → IsBegun lefts ready (n + 1) room
begun_skip lefts ready n room lt some b = record {
  every = λ l below zero_at. every_by l below zero_at (cases_lt l n);
  only = b.only;
  count = let more = count_by_more_yes (nat_lt 0) lefts n 0 lt (let t : nat_lt 0 (get_or lefts n 0) ≡ true = grind (arith, nat_tests, some) in t) in omega (arith, more, b.count);
  room_is = b.room_is;
}
  where
    every_by : (l : ℕ) → l < n + 1 → get_or lefts l 0 ≡ 0 → (l < n) ⊎ (n ≤ l) → Contains ready l
    every_by l below zero_at (inl less) = b.every l less zero_at
    every_by l below zero_at (inr past) = let same : l ≡ n = omega (arith, below, past) in absurd (some (ap (λ (k : ℕ). get_or lefts k 0) (sym same) ∙ zero_at))

-- ---- as jobs change

passed_set : (launches : List JobState) (ready : List ℕ) (from l : ℕ) (x y : JobState) → slice_get launches l ≡ Some x → is_free y ≡ false → IsPassed launches ready from → IsPassed (set launches l y) ready from
passed_set launches ready from l x y at taken p = record {
  within = p.within;
  passed = λ i lt free. p.passed i lt (not_free_at launches l (get_or ready i 0) x y (eqb (get_or ready i 0) l) refl at taken free);
}

pub passed_write : (s : CoreState) (job : JobId) (x y : JobState) (ready : List ℕ) (from : ℕ) → state_of s job ≡ Some x → IsPassed s.launches ready from → IsPassed (with_launch job y s.launches) ready (passed_over from job y)
passed_write s (Page j) x y ready from at p = p
passed_write s (Launch l) x Free ready from at p = record { within = omega arith; passed = λ i lt. absurd (omega (arith, lt)) }
passed_write s (Launch l) x (Held w) ready from at p = passed_set s.launches ready from l x (Held w) at refl p
passed_write s (Launch l) x Done ready from at p = passed_set s.launches ready from l x Done at refl p

-- the line grows at its end
pub passed_grows : (launches : List JobState) (ready now more : List ℕ) (from : ℕ) → now ≡ ready ++ more → IsPassed launches ready from → IsPassed launches now from
passed_grows launches ready now more from is p = subst (λ (xs : List ℕ). IsPassed launches xs from) (sym is) (record {
  within = omega (arith, p.within, length-append ready more);
  passed = λ i lt free. p.passed i lt (sym (ap (slice_get launches) (get_or_append_left ready more 0 i (omega (arith, lt, p.within)))) ∙ free);
})

pub launches_stay : (s : CoreState) (job : JobId) (y : JobState) → length (with_launch job y s.launches) ≡ length s.launches
launches_stay s (Page j) y = refl
launches_stay s (Launch l) y = length-set s.launches l y

pub done_passes : (n : ℕ) (job : JobId) → passed_over n job Done ≡ n
done_passes n (Page j) = refl
done_passes n (Launch l) = refl

pub passed_none : (launches : List JobState) (ready : List ℕ) → IsPassed launches ready 0
passed_none launches ready = record { within = omega arith; passed = λ i lt. absurd (omega (arith, lt)) }

-- ---- the next of the line

pub next_some : (s : CoreState) (gs : List PageGroup) (cs : List Cursor) (lefts ready : List ℕ) (room at : ℕ) (o : Option ℕ) → Waits s.pages gs cs lefts → IsIndex s.needs gs → IsLine lefts ready room
    → (at < length ready → slice_get s.launches (get_or ready at 0) ≡ Some Free) → o ≡ slice_get ready at
    → IfSome o (λ l. (slice_get s.launches l ≡ Some Free) × (is_ready s (Launch l) ≡ true))
next_some s gs cs lefts ready room at None w index line free is = tt
next_some s gs cs lefts ready room at (Some l) w index line free is =
    let lt = slice_get_within ready at l (sym is) in
    let own : get_or ready at 0 ≡ l = get_or_from_slice_get ready at l 0 (sym is) in
    let none : get_or lefts l 0 ≡ 0 = ap (λ (k : ℕ). get_or lefts k 0) (sym own) ∙ line.only at 0 lt in
    (ap (slice_get s.launches) (sym own) ∙ free lt, sym (ready_index s gs cs lefts l w index) ∙ eq-eqb (get_or lefts l 0) 0 none)

pub next_none : (s : CoreState) (gs : List PageGroup) (cs : List Cursor) (lefts ready : List ℕ) (room from at : ℕ) (o : Option ℕ) → Waits s.pages gs cs lefts → IsIndex s.needs gs → IsLine lefts ready room
    → length lefts ≡ length s.launches → IsPassed s.launches ready from
    → ((i : ℕ) → from ≤ i → i < at → slice_get s.launches (get_or ready i 0) ≢ Some Free) → o ≡ slice_get ready at
    → IfNone o ((l : ℕ) → slice_get s.launches l ≡ Some Free → is_ready s (Launch l) ≡ false)
next_none s gs cs lefts ready room from at (Some l) w index line size before passed is = tt
next_none s gs cs lefts ready room from at None w index line size before passed is = λ l free. by l free (cases_eq (get_or lefts l 0) 0)
  where
    past : length ready ≤ at
    past = past_by (cases_lt at (length ready))
      where
        past_by : (at < length ready) ⊎ (length ready ≤ at) → length ready ≤ at
        past_by (inl lt) = let there_is = slice_get-get_or ready at 0 lt in cc
        past_by (inr le) = le

    none_free : (k : ℕ) → k < length ready → slice_get s.launches (get_or ready k 0) ≡ Some Free → ⊥
    none_free k lt free = none_by (cases_lt k from)
      where
        none_by : (k < from) ⊎ (from ≤ k) → ⊥
        none_by (inl low) = before.passed k low free
        none_by (inr high) = passed k high (omega (arith, lt, past)) free

    by : (l : ℕ) → slice_get s.launches l ≡ Some Free → (get_or lefts l 0 ≡ 0) ⊎ (get_or lefts l 0 ≡ 0 → ⊥) → is_ready s (Launch l) ≡ false
    by l free (inl none) =
        let lt : l < length lefts = omega (arith, size, slice_get_within s.launches l Free free) in
        let has = line.every l lt none in
        let own : get_or ready has.0 0 ≡ l = get_or_default ready has.0 0 l has.1 ∙ has.2 in
        absurd (none_free has.0 has.1 (ap (slice_get s.launches) own ∙ free))
    by l free (inr some) = sym (ready_index s gs cs lefts l w index) ∙ ne_eqb (get_or lefts l 0) 0 some
