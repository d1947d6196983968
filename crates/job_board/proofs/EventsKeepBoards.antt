-- Each event that a step accepts leaves a board a board.
use Rattle.std.proofs.Common.{◌≡◌, ℕ, zero, suc, ◌+◌, ◌<◌, Bool, true, false, cond, eqb, List, [], ◌∷◌, ◌++◌, length, get_or, set, map, Option, Some, None, Ok, refl, sym, ap, ◌∙◌, subst, arith}
use Rattle.std.specs.Prelude.{is_some, option_and_then, unwrap_or}
use Rattle.std.specs.List.{All, filter_map, list_all, slice_get}
use Rattle.std.specs.Option.{option_map}
use Rattle.std.proofs.lemmas.Bool.Decides.{nat_tests}
use Rattle.std.proofs.lemmas.List.{map-set, length-map}
use Rattle.std.proofs.lemmas.List.Elements.{All-contains}
use Rattle.std.proofs.lemmas.List.Sums.{AllPass-from_list_all, list_all-from_AllPass}
use Rattle.std.proofs.lemmas.Option.{get_or_from_slice_get, same_Some, slice_get-map, unwrap_or-slice_get}
use Rattle.rim_desc.specs.declared.measurement.Measurement.{Measurement}
use Rattle.page_jobs.specs.Table.{IsTable, TableView, digest_at, digest_in, with_digest}
use Rattle.page_jobs.specs.declared.page.PageKey.{PageKey}
use Rattle.launch_plan.specs.Links.{PlanView, chain_of, keys_of}
use Rattle.launch_plan.specs.Rows.{IsRowOf, has_all, value_in}
use Rattle.job_core.specs.declared.job.JobId.{JobId}
use Rattle.job_core.specs.declared.job.JobId.TheVariants.{Page, Launch}
use Rattle.job_core.specs.declared.job.JobState.{JobState}
use Rattle.job_core.specs.declared.job.JobState.TheVariants.{Free, Held, Done}
use Rattle.job_core.specs.declared.job.Event.{Event}
use Rattle.job_core.specs.declared.job.Event.TheVariants.{Take, Put, Retire}
use Rattle.job_core.specs.Jobs.{CoreState, freed, is_done, is_page_done, is_ready, pages_done, state_of, with_job}
use Rattle.job_core.specs.Step.{core_step}
use Rattle.job_board.specs.Board.{BoardView, IsBoard, IsNeeded}
use Rattle.job_core.proofs.CountsOfJobs.{bit}
use Rattle.job_core.proofs.OneJobChanges.{slice_get-set_other}
use Rattle.job_core.proofs.LegalLists.{done_next, is_page_put}
use Rattle.job_core.proofs.ReadyStaysReady.{GivenAreReady, is_given, stay_ready}
use Rattle.job_core.proofs.CoreCounts.{core_next}
use Rattle.job_board.proofs.HistoryGoesOn.{history_push}
use Rattle.job_board.specs.History.{IsHistory}
use Rattle.job_core.proofs.WhatStepsChange as kept

history_ready : (s : CoreState) (es : List Event) → IsHistory s es → GivenAreReady s
history_ready s es h = subst GivenAreReady (sym h.replayed) (stay_ready (length s.retired) (length s.pages) s.needs es h.legal)

-- ---- slots

empty_at : (o : Option (Option Measurement)) → option_map is_some o ≡ Some false → o ≡ Some None
empty_at None e = cc
empty_at (Some None) e = refl
empty_at (Some (Some d)) e = cc

-- the slot of a page that is held is empty
pub slot_empty : (ds : List (Option Measurement)) (ps : List JobState) (w j : ℕ) → map is_some ds ≡ map is_done ps → slice_get ps j ≡ Some (Held w) → slice_get ds j ≡ Some None
slot_empty ds ps w j filled held =
    empty_at (slice_get ds j) (sym (slice_get-map is_some ds j) ∙ (ap (λ (bs : List Bool). slice_get bs j) filled ∙ (slice_get-map is_done ps j ∙ ap (option_map is_done) held)))

-- the slot of a page that is done is filled
pub slot_filled : (t : TableView) (ps : List JobState) (j : ℕ) → map is_some t.digests ≡ map is_done ps → is_page_done ps j ≡ true → is_some (digest_in t j) ≡ true
slot_filled t ps j filled is = filled_or (slice_get t.digests j) (slice_get ps j) both (ap is_done (unwrap_or-slice_get ps j Free) ∙ is)
  where
    both : option_map is_some (slice_get t.digests j) ≡ option_map is_done (slice_get ps j)
    both = sym (slice_get-map is_some t.digests j) ∙ (ap (λ (bs : List Bool). slice_get bs j) filled ∙ slice_get-map is_done ps j)

    filled_or : (o : Option (Option Measurement)) (x : Option JobState) → option_map is_some o ≡ option_map is_done x → is_done (unwrap_or x Free) ≡ true → is_some (option_and_then (λ slot. slot) o) ≡ true
    filled_or None None same d = cc
    filled_or None (Some x) same d = cc
    filled_or (Some d') None same d = cc
    filled_or (Some d') (Some x) same d = same_Some (is_some d') (is_done x) same ∙ d

-- ---- the pages of a launch that is ready

needed_done : (t : TableView) (ps : List JobState) (needed : List ℕ) (key : PageKey) (n : IsNeeded t needed key) → list_all (is_page_done ps) needed ≡ true → is_page_done ps n.0 ≡ true
needed_done t ps needed key n all = All-contains (λ j. is_page_done ps j ≡ true) needed n.0 (AllPass-from_list_all (is_page_done ps) needed all) n.2

digest_there : (t : TableView) (ps : List JobState) (needed : List ℕ) (key : PageKey) → IsNeeded t needed key → map is_some t.digests ≡ map is_done ps → list_all (is_page_done ps) needed ≡ true → is_some (digest_at t key) ≡ true
digest_there t ps needed key n filled all =
    ap (λ (o : Option ℕ). is_some (option_and_then (digest_in t) o)) n.1 ∙ slot_filled t ps n.0 filled (needed_done t ps needed key n all)

pub ready_filled : (b : BoardView) (l : ℕ) (p : PlanView) → IsBoard b → slice_get b.plans l ≡ Some p → is_ready b.core (Launch l) ≡ true → has_all b.table (keys_of p.links) ≡ true
ready_filled b l p k plan ready =
    list_all-from_AllPass (λ key. is_some (digest_at b.table key)) (keys_of p.links) (λ i d lt.
    digest_there b.table b.core.pages (get_or b.core.needs l []) (get_or (keys_of p.links) i d) (k.needs l p plan i d lt) k.filled ready)

-- a launch that is held is ready
pub held_filled : (b : BoardView) (w l : ℕ) (p : PlanView) → IsBoard b → slice_get b.plans l ≡ Some p → slice_get b.core.launches l ≡ Some (Held w) → has_all b.table (keys_of p.links) ≡ true
held_filled b w l p k plan held = ready_filled b l p k plan (history_ready b.core b.history k.history l (ap is_given held))

-- a launch with a value is done, so it is ready
given_done : (o : Option JobState) (r : Option (Option Measurement)) (m : Measurement) → option_map is_some r ≡ option_map is_done o → r ≡ Some (Some m) → is_given o ≡ true
given_done None r m same at = let e = sym same ∙ ap (option_map is_some) at in cc
given_done (Some Free) r m same at = let e = sym same ∙ ap (option_map is_some) at in cc
given_done (Some (Held w)) r m same at = refl
given_done (Some Done) r m same at = refl

given_ready : (b : BoardView) (l : ℕ) (m : Measurement) → IsBoard b → slice_get b.results l ≡ Some (Some m) → is_ready b.core (Launch l) ≡ true
given_ready b l m k at =
    let same : option_map is_some (slice_get b.results l) ≡ option_map is_done (slice_get b.core.launches l) =
    sym (slice_get-map is_some b.results l) ∙ (ap (λ (bs : List Bool). slice_get bs l) k.given ∙ slice_get-map is_done b.core.launches l) in
    history_ready b.core b.history k.history l (given_done (slice_get b.core.launches l) (slice_get b.results l) m same at)

-- ---- a digest in the slot of a page that is held

digest_stays : (t : TableView) (ps : List JobState) (needed : List ℕ) (key : PageKey) (w j : ℕ) (d : Measurement) → IsNeeded t needed key → list_all (is_page_done ps) needed ≡ true → slice_get ps j ≡ Some (Held w)
    → digest_at (with_digest t j d) key ≡ digest_at t key
digest_stays t ps needed key w j d n all held =
    ap (option_and_then (digest_in (with_digest t j d))) n.1 ∙ (stays_at (eqb n.0 j) refl ∙ ap (option_and_then (digest_in t)) (sym n.1))
  where
    stays_at : (b : Bool) → eqb n.0 j ≡ b → digest_in (with_digest t j d) n.0 ≡ digest_in t n.0
    stays_at true is =
        let same : n.0 ≡ j = grind (arith, nat_tests) in
        let no : is_page_done ps n.0 ≡ false = ap (is_page_done ps) same ∙ ap is_done (get_or_from_slice_get ps j (Held w) Free held) in
        let e : true ≡ false = sym (needed_done t ps needed key n all) ∙ no in
        cc
    stays_at false is = ap (option_and_then (λ (slot : Option Measurement). slot)) (slice_get-set_other t.digests j n.0 (Some d) is)

filter_map_same : {X Y : Type 0} (f g : X → Option Y) (xs : List X) → All (λ x. f x ≡ g x) xs → filter_map f xs ≡ filter_map g xs
filter_map_same f g [] same = refl
filter_map_same f g (x ∷ xs) same =
    rw (same 0 x (omega arith), filter_map_same f g xs (λ k d lt. same (suc k) d (let lt' : suc k < suc (length xs) = omega (arith, lt) in lt'))) refl

-- it changes no value of a launch that is ready
value_stays : (b : BoardView) (l : ℕ) (p : PlanView) (w j : ℕ) (d : Measurement) → IsBoard b → slice_get b.plans l ≡ Some p → is_ready b.core (Launch l) ≡ true → slice_get b.core.pages j ≡ Some (Held w)
    → value_in (with_digest b.table j d) p ≡ value_in b.table p
value_stays b l p w j d k plan ready held =
    ap (chain_of p) (filter_map_same (digest_at (with_digest b.table j d)) (digest_at b.table) (keys_of p.links) (λ i e lt.
    digest_stays b.table b.core.pages (get_or b.core.needs l []) (get_or (keys_of p.links) i e) w j d (k.needs l p plan i e lt) ready held))

-- ---- a put of a page

pub board_put_page : (b : BoardView) (t : CoreState) (w j : ℕ) (d : Measurement) → IsBoard b → IsTable (with_digest b.table j d) → core_step b.core (Put w (Page j)) ≡ Ok t
    → IsBoard (record { core = t; history = b.history ++ Put w (Page j) ∷ []; table = with_digest b.table j d; plans = b.plans; results = b.results; book = b.book + 1 })
board_put_page b t w j d k table is =
    let p = kept.put_says b.core t w (Page j) is in
    let n = done_next b.core (Put w (Page j)) (kept.accepted b.core t (Put w (Page j)) is) in
    let same = ap pages_done (kept.next_is b.core t (Put w (Page j)) is) in
    let pages : map is_done t.pages ≡ set (map is_done b.core.pages) j true = ap (λ (u : CoreState). map is_done u.pages) p.2 ∙ map-set is_done b.core.pages j Done in
    record {
      core = core_next b.core t (Put w (Page j)) is k.core;
      history = history_push b.core t b.history (Put w (Page j)) k.history is;
      table = table;
      slots = k.slots ∙ sym (kept.pages b.core t (Put w (Page j)) is);
      filled = map-set is_some b.table.digests j (Some d) ∙ (ap (λ (bs : List Bool). set bs j true) k.filled ∙ sym pages);
      booked = omega (arith, n, same, k.booked);
      plans = k.plans ∙ sym (kept.launches b.core t (Put w (Page j)) is);
      needs = λ l q plan. subst (λ (ns : List (List ℕ)). All (IsNeeded b.table (get_or ns l [])) (keys_of q.links)) (sym (kept.needs b.core t (Put w (Page j)) is)) (k.needs l q plan);
      given = k.given ∙ ap (λ (u : CoreState). map is_done u.launches) (sym p.2);
      own = λ l q m plan at. k.own l q m plan at ∙ sym (value_stays b l q w j d k plan (given_ready b l m k at) p.1);
    }

-- ---- a put of a launch

pub set_is : {X : Type 0} (xs : List X) (l : ℕ) (y z : X) → slice_get (set xs l y) l ≡ Some z → y ≡ z
set_is [] l y z at = cc
set_is (x ∷ xs) zero y z at = same_Some y z at
set_is (x ∷ xs) (suc l) y z at = set_is xs l y z at

pub board_put_launch : (b : BoardView) (t : CoreState) (w l : ℕ) (p : PlanView) (m : Measurement) → IsBoard b → core_step b.core (Put w (Launch l)) ≡ Ok t
    → slice_get b.plans l ≡ Some p → m.bytes ≡ value_in b.table p
    → IsBoard (record { core = t; history = b.history ++ Put w (Launch l) ∷ []; table = b.table; plans = b.plans; results = set b.results l (Some m); book = b.book })
board_put_launch b t w l p m k is plan value =
    let q = kept.put_says b.core t w (Launch l) is in
    let n = done_next b.core (Put w (Launch l)) (kept.accepted b.core t (Put w (Launch l)) is) in
    let same = ap pages_done (kept.next_is b.core t (Put w (Launch l)) is) in
    let launches : map is_done t.launches ≡ set (map is_done b.core.launches) l true = ap (λ (u : CoreState). map is_done u.launches) q.2 ∙ map-set is_done b.core.launches l Done in
    record {
      core = core_next b.core t (Put w (Launch l)) is k.core;
      history = history_push b.core t b.history (Put w (Launch l)) k.history is;
      table = k.table;
      slots = k.slots ∙ sym (kept.pages b.core t (Put w (Launch l)) is);
      filled = k.filled ∙ ap (λ (u : CoreState). map is_done u.pages) (sym q.2);
      booked = omega (arith, n, same, k.booked);
      plans = k.plans ∙ sym (kept.launches b.core t (Put w (Launch l)) is);
      needs = λ i r other. subst (λ (ns : List (List ℕ)). All (IsNeeded b.table (get_or ns i [])) (keys_of r.links)) (sym (kept.needs b.core t (Put w (Launch l)) is)) (k.needs i r other);
      given = map-set is_some b.results l (Some m) ∙ (ap (λ (bs : List Bool). set bs l true) k.given ∙ sym launches);
      own = λ i r u other at. own_at i r u other at (eqb i l) refl;
    }
  where
    own_at : (i : ℕ) (r : PlanView) (u : Measurement) → slice_get b.plans i ≡ Some r → slice_get (set b.results l (Some m)) i ≡ Some (Some u) → (c : Bool) → eqb i l ≡ c → u.bytes ≡ value_in b.table r
    own_at i r u other at true e =
        let here : i ≡ l = grind (arith, nat_tests) in
        let at' : slice_get (set b.results l (Some m)) l ≡ Some (Some u) = ap (slice_get (set b.results l (Some m))) (sym here) ∙ at in
        let is_m : m ≡ u = same_Some m u (set_is b.results l (Some m) (Some u) at') in
        let is_p : p ≡ r = same_Some p r (sym plan ∙ (ap (slice_get b.plans) (sym here) ∙ other)) in
        ap (λ (x : Measurement). x.bytes) (sym is_m) ∙ (value ∙ ap (value_in b.table) is_p)
    own_at i r u other at false e = k.own i r u other (sym (slice_get-set_other b.results l i (Some m) e) ∙ at)

-- ---- a take or a retirement

abbrev pub is_put : Event → Bool
is_put (Take w job) = false
is_put (Put w job) = true
is_put (Retire w) = false

set_same : (bs : List Bool) (j : ℕ) (b : Bool) → slice_get bs j ≡ Some b → set bs j b ≡ bs
set_same [] j b at = refl
set_same (x ∷ bs) zero b at = ap (λ (y : Bool). y ∷ bs) (sym (same_Some x b at))
set_same (x ∷ bs) (suc j) b at = ap (λ (ys : List Bool). x ∷ ys) (set_same bs j b at)

freed_done : (w : ℕ) (x : JobState) → is_done (freed w x) ≡ is_done x
freed_done w Free = refl
freed_done w (Held v) = freed_held (eqb v w)
  where
    freed_held : (b : Bool) → is_done (cond b Free (Held v)) ≡ false
    freed_held true = refl
    freed_held false = refl
freed_done w Done = refl

map-freed_done : (w : ℕ) (xs : List JobState) → map is_done (map (freed w) xs) ≡ map is_done xs
map-freed_done w [] = refl
map-freed_done w (x ∷ xs) = ap (λ (b : Bool). b ∷ map is_done (map (freed w) xs)) (freed_done w x) ∙ ap (λ (bs : List Bool). is_done x ∷ bs) (map-freed_done w xs)

held_done : (xs : List JobState) (j w : ℕ) → slice_get xs j ≡ Some Free → map is_done (set xs j (Held w)) ≡ map is_done xs
held_done xs j w free = map-set is_done xs j (Held w) ∙ set_same (map is_done xs) j false (slice_get-map is_done xs j ∙ ap (option_map is_done) free)

take_done : (s : CoreState) (w : ℕ) (job : JobId) → state_of s job ≡ Some Free
    → (map is_done (with_job s job (Held w)).pages ≡ map is_done s.pages) × (map is_done (with_job s job (Held w)).launches ≡ map is_done s.launches)
take_done s w (Page j) free = (held_done s.pages j w free, refl)
take_done s w (Launch l) free = (refl, held_done s.launches l w free)

-- an event that is no put leaves what is done as it was
done_stays : (s t : CoreState) (e : Event) → is_put e ≡ false → core_step s e ≡ Ok t → (map is_done t.pages ≡ map is_done s.pages) × (map is_done t.launches ≡ map is_done s.launches)
done_stays s t (Take w job) other is =
    let p = kept.take_says s t w job is in
    let d = take_done s w job p.0 in
    (ap (λ (u : CoreState). map is_done u.pages) p.2 ∙ d.0, ap (λ (u : CoreState). map is_done u.launches) p.2 ∙ d.1)
done_stays s t (Put w job) other is = cc
done_stays s t (Retire w) other is =
    let p = kept.retire_says s t w is in
    (ap (λ (u : CoreState). map is_done u.pages) p.1 ∙ map-freed_done w s.pages, ap (λ (u : CoreState). map is_done u.launches) p.1 ∙ map-freed_done w s.launches)

no_page_put : (e : Event) → is_put e ≡ false → is_page_put e ≡ false
no_page_put (Take w job) other = refl
no_page_put (Put w job) other = cc
no_page_put (Retire w) other = refl

pub board_other : (b : BoardView) (t : CoreState) (e : Event) → is_put e ≡ false → IsBoard b → core_step b.core e ≡ Ok t
    → IsBoard (record { core = t; history = b.history ++ e ∷ []; table = b.table; plans = b.plans; results = b.results; book = b.book })
board_other b t e other k is =
    let n = done_next b.core e (kept.accepted b.core t e is) in
    let none : bit (is_page_put e) ≡ 0 = ap bit (no_page_put e other) in
    let same = ap pages_done (kept.next_is b.core t e is) in
    let d = done_stays b.core t e other is in
    record {
      core = core_next b.core t e is k.core;
      history = history_push b.core t b.history e k.history is;
      table = k.table;
      slots = k.slots ∙ sym (kept.pages b.core t e is);
      filled = k.filled ∙ sym d.0;
      booked = omega (arith, n, none, same, k.booked);
      plans = k.plans ∙ sym (kept.launches b.core t e is);
      needs = λ l q plan. subst (λ (ns : List (List ℕ)). All (IsNeeded b.table (get_or ns l [])) (keys_of q.links)) (sym (kept.needs b.core t e is)) (k.needs l q plan);
      given = k.given ∙ sym d.1;
      own = k.own;
    }

pub results_are : (b : BoardView) → IsBoard b → length b.core.launches ≡ length b.results
results_are b k = sym (length-map b.core.launches is_done) ∙ (ap length (sym k.given) ∙ length-map b.results is_some)

-- ---- a row of the table's digests

row_is : {X : Type 0} (f : X → Option Measurement) (xs : List X) (ds : List Measurement) → map f xs ≡ map (λ d. Some d) ds → filter_map f xs ≡ ds
row_is f [] [] same = refl
row_is f [] (d ∷ ds) same = cc
row_is f (x ∷ xs) [] same = cc
row_is f (x ∷ xs) (d ∷ ds) same =
    let here : f x ≡ Some d = cc in
    let rest : map f xs ≡ map (λ e. Some e) ds = cc in
    rw (here, row_is f xs ds rest) refl

pub value_is : (t : TableView) (p : PlanView) (digests : List Measurement) → IsRowOf t (keys_of p.links) digests → chain_of p digests ≡ value_in t p
value_is t p digests is = ap (chain_of p) (sym (row_is (digest_at t) (keys_of p.links) digests is))
