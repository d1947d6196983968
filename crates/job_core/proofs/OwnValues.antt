-- Each put has its job's own value.
use Rattle.std.proofs.Common.{◌≡◌, ℕ, ◌+◌, ◌<◌, ◌≤◌, Bool, true, false, cond, eqb, ◌||◌, List, [], ◌∷◌, length, get_or, set, map, replicate, Option, Some, None, refl, sym, ap, ◌∙◌, subst, arith}
use Rattle.std.specs.Prelude.{◌↔◌}
use Rattle.std.specs.List.{All, Contains, count_by, slice_get, list_all, list_any, filter_map}
use Rattle.std.specs.Option.{option_map}
use Rattle.std.proofs.lemmas.List.{length-replicate}
use Rattle.std.proofs.lemmas.List.Elements.{All-contains}
use Rattle.std.proofs.lemmas.List.Sums.{AllPass-from_list_all, get_or-le-sum_by, list_all-from_AllPass, sum_by-cons}
use Rattle.std.proofs.lemmas.Map.Views.{Contains-from_any}
use Rattle.std.proofs.lemmas.Bool.{and_parts, or_right}
use Rattle.std.proofs.lemmas.Option.{slice_get_within, slice_get-map, same_Some}
use Rattle.std.proofs.lemmas.Bool.Decides.{nat_tests}
use Rattle.job_core.specs.declared.job.JobId.{JobId}
use Rattle.job_core.specs.declared.job.JobId.TheVariants.{Page, Launch}
use Rattle.job_core.specs.declared.job.JobState.{JobState}
use Rattle.job_core.specs.declared.job.JobState.TheVariants.{Free, Held, Done}
use Rattle.job_core.specs.declared.job.Event.{Event}
use Rattle.job_core.specs.declared.job.Event.TheVariants.{Take, Put, Retire}
use Rattle.job_core.specs.Jobs.{CoreState, state_of, is_ready, is_page_done, freed, opening}
use Rattle.job_core.specs.Events.{jobs_put, next_state, is_accepted, replay, is_legal, same_job}
use Rattle.job_core.specs.Values.{Makes, Seen, nothing_seen, seen_after, values_from, values, own_value, NeedsHold}
use Rattle.job_core.proofs.CountsOfJobs.{bit}
use Rattle.job_core.proofs.AcceptedEvents.{accepted_take, accepted_put, accepted_retire, Takes}
use Rattle.job_core.proofs.OneJobChanges.{fresh, fresh_job, same_job-is, slice_get-set_same, slice_get-set_other}
use Rattle.job_core.proofs.LegalLists.{done_at, done_at-le, is_put_of, legal_parts, needs_next, put_run, puts_are, size_next}
use Rattle.job_core.proofs.ReadyStaysReady.{done_is, is_given, page_done_next}

-- what was put and gathered so far is right: each done page's value is its own, and each held launch's row is of its own pages
pub record Right (m : Makes) (s : CoreState) (n : Seen) : Type 0 where
  pub put : (p : ℕ) → is_page_done s.pages p ≡ true → n.put p ≡ Some (m.page p)
  pub rows : (l v : ℕ) → slice_get s.launches l ≡ Some (Held v) → n.rows l ≡ map m.page (m.keys l)

-- all pages that a launch needs are done, so all pages of its row are
all_keys : (f : ℕ → Bool) (ps ks : List ℕ) → All (Contains ps) ks → list_all f ps ≡ true → list_all f ks ≡ true
all_keys f ps ks hold all =
    list_all-from_AllPass f ks (λ k d lt. All-contains (λ p. f p ≡ true) ps (get_or ks k d) (AllPass-from_list_all f ps all) (hold k d lt))

-- the row of pages that are all done
row_is : (m : Makes) (s : CoreState) (n : Seen) (ks : List ℕ) → Right m s n → list_all (is_page_done s.pages) ks ≡ true → filter_map n.put ks ≡ map m.page ks
row_is m s n [] r all = refl
row_is m s n (k ∷ ks) r all =
    let q = and_parts (is_page_done s.pages k) (list_all (is_page_done s.pages) ks) all in
    let rest = row_is m s n ks r q.1 in
    rw (r.put k q.0) (ap (λ vs. m.page k ∷ vs) rest)

gathers : (m : Makes) (s : CoreState) (n : Seen) (l : ℕ) → NeedsHold m s.needs → l < length s.needs → Right m s n → is_ready s (Launch l) ≡ true → filter_map n.put (m.keys l) ≡ map m.page (m.keys l)
gathers m s n l hold lt r ready = row_is m s n (m.keys l) r (all_keys (is_page_done s.pages) (get_or s.needs l []) (m.keys l) (hold l lt) ready)

-- a page that is not put stays as it was
done_back : (s : CoreState) (e : Event) (p : ℕ) → is_accepted s e ≡ true → is_put_of (Page p) e ≡ false → is_page_done (next_state s e).pages p ≡ true → is_page_done s.pages p ≡ true
done_back s e p h other is =
    let up = page_done_next s e p h in
    let none : bit (is_put_of (Page p) e) ≡ 0 = ap bit other in
    let one : bit (is_page_done (next_state s e).pages p) ≡ 1 = ap bit is in
    bit_one (is_page_done s.pages p) (omega arith)
  where
    bit_one : (b : Bool) → bit b ≡ 1 → b ≡ true
    bit_one true e1 = refl
    bit_one false e1 = absurd (omega arith)

-- a launch that is held now was held before, if it is not the one taken
held_freed : (w v : ℕ) (o : Option JobState) → option_map (freed w) o ≡ Some (Held v) → o ≡ Some (Held v)
held_freed w v None e = e
held_freed w v (Some Free) e = cc
held_freed w v (Some (Held u)) e = held_freed_at (eqb u w) (same_Some (freed w (Held u)) (Held v) e)
  where
    held_freed_at : (b : Bool) → cond b Free (Held u) ≡ Held v → Some (Held u) ≡ Some (Held v)
    held_freed_at true d = cc
    held_freed_at false d = ap Some d
held_freed w v (Some Done) e = cc

right-take_launch : (m : Makes) (s : CoreState) (n : Seen) (w k : ℕ) → NeedsHold m s.needs → k < length s.needs → Right m s n → Takes s w (Launch k)
    → (l v : ℕ) (b : Bool) → eqb l k ≡ b → slice_get (set s.launches k (Held w)) l ≡ Some (Held v) → cond b (filter_map n.put (m.keys k)) (n.rows l) ≡ map m.page (m.keys l)
right-take_launch m s n w k hold lt r t l v true is at =
    let same : k ≡ l = grind (arith, nat_tests) in
    gathers m s n k hold lt r t.ready ∙ ap (λ (j : ℕ). map m.page (m.keys j)) same
right-take_launch m s n w k hold lt r t l v false is at = r.rows l v (sym (slice_get-set_other s.launches k l (Held w) is) ∙ at)

held-put : (s : CoreState) (w k l v : ℕ) (b : Bool) → eqb l k ≡ b → slice_get s.launches k ≡ Some (Held w) → slice_get (set s.launches k Done) l ≡ Some (Held v) → slice_get s.launches l ≡ Some (Held v)
held-put s w k l v true is held at =
    let same : l ≡ k = grind (arith, nat_tests) in
    let now : slice_get (set s.launches k Done) k ≡ Some Done = slice_get-set_same s.launches k (Held w) Done held in
    let both : Some Done ≡ Some (Held v) = sym now ∙ (ap (slice_get (set s.launches k Done)) (sym same) ∙ at) in
    cc
held-put s w k l v false is held at = sym (slice_get-set_other s.launches k l Done is) ∙ at

put_rows : (m : Makes) (n : Seen) (p j : ℕ) (b : Bool) → eqb p j ≡ b → (b ≡ false → n.put p ≡ Some (m.page p)) → cond b (Some (m.page j)) (n.put p) ≡ Some (m.page p)
put_rows m n p j true is more = let same : j ≡ p = grind (arith, nat_tests) in ap (λ (k : ℕ). Some (m.page k)) same
put_rows m n p j false is more = more refl

pub right_next : (m : Makes) (s : CoreState) (n : Seen) (e : Event) → NeedsHold m s.needs → length s.launches ≡ length s.needs → is_accepted s e ≡ true → Right m s n → Right m (next_state s e) (seen_after m n e)
right_next m s n (Take w (Page j)) hold size h r =
    let t = accepted_take s w (Page j) h in
    record {
      put = λ p is. r.put p (done_back s (Take w (Page j)) p h refl is);
      rows = λ l v at. r.rows l v (sym (ap (λ (u : CoreState). slice_get u.launches l) t.next) ∙ at);
    }
right_next m s n (Take w (Launch k)) hold size h r =
    let t = accepted_take s w (Launch k) h in
    let lt : k < length s.needs = let within = slice_get_within s.launches k Free t.free in omega arith in
    record {
      put = λ p is. r.put p (done_back s (Take w (Launch k)) p h refl is);
      rows = λ l v at. right-take_launch m s n w k hold lt r t l v (eqb l k) refl (sym (ap (λ (u : CoreState). slice_get u.launches l) t.next) ∙ at);
    }
right_next m s n (Put w (Page j)) hold size h r =
    let t = accepted_put s w (Page j) h in
    record {
      put = λ p is. put_rows m n p j (eqb p j) refl (λ other. r.put p (done_back s (Put w (Page j)) p h other is));
      rows = λ l v at. r.rows l v (sym (ap (λ (u : CoreState). slice_get u.launches l) t.next) ∙ at);
    }
right_next m s n (Put w (Launch k)) hold size h r =
    let t = accepted_put s w (Launch k) h in
    record {
      put = λ p is. r.put p (done_back s (Put w (Launch k)) p h refl is);
      rows = λ l v at. r.rows l v (held-put s w k l v (eqb l k) refl t.held (sym (ap (λ (u : CoreState). slice_get u.launches l) t.next) ∙ at));
    }
right_next m s n (Retire w) hold size h r =
    let t = accepted_retire s w h in
    record {
      put = λ p is. r.put p (done_back s (Retire w) p h refl is);
      rows = λ l v at. r.rows l v (held_freed w v (slice_get s.launches l) (sym (slice_get-map (freed w) s.launches l) ∙ (sym (ap (λ (u : CoreState). slice_get u.launches l) t.next) ∙ at)));
    }

-- what the induction carries
pub record Going (m : Makes) (s : CoreState) (n : Seen) : Type 0 where
  pub hold : NeedsHold m s.needs
  pub size : length s.launches ≡ length s.needs
  pub right : Right m s n

pub going_next : (m : Makes) (s : CoreState) (n : Seen) (e : Event) → is_accepted s e ≡ true → Going m s n → Going m (next_state s e) (seen_after m n e)
going_next m s n e h g =
    let needs = needs_next s e h in
    let size = (size_next s e h).launches in
    record {
      hold = subst (λ (ns : List (List ℕ)). NeedsHold m ns) (sym needs) g.hold;
      size = size ∙ (g.size ∙ ap length (sym needs));
      right = right_next m s n e g.hold g.size h g.right;
    }

pub values_are : (m : Makes) (s : CoreState) (n : Seen) (es : List Event) → is_legal s es ≡ true → Going m s n → values_from m n es ≡ map (λ job. (job, own_value m job)) (jobs_put es)
values_are m s n [] h g = refl
values_are m s n (Take w job ∷ es) h g =
    let p = legal_parts s (Take w job) es h in
    values_are m (next_state s (Take w job)) (seen_after m n (Take w job)) es p.1 (going_next m s n (Take w job) p.0 g)
values_are m s n (Put w (Page j) ∷ es) h g =
    let p = legal_parts s (Put w (Page j)) es h in
    ap (λ (vs : List (JobId × List ℕ)). (Page j, m.page j) ∷ vs) (values_are m (next_state s (Put w (Page j))) (seen_after m n (Put w (Page j))) es p.1 (going_next m s n (Put w (Page j)) p.0 g))
values_are m s n (Put w (Launch l) ∷ es) h g =
    let p = legal_parts s (Put w (Launch l)) es h in
    let t = accepted_put s w (Launch l) p.0 in
    let row : n.rows l ≡ map m.page (m.keys l) = g.right.rows l w t.held in
    let rest = values_are m (next_state s (Put w (Launch l))) n es p.1 (going_next m s n (Put w (Launch l)) p.0 g) in
    ap (λ (vs : List (JobId × List ℕ)). (Launch l, m.fold l (n.rows l)) ∷ vs) rest ∙ ap (λ (r : List (List ℕ)). (Launch l, m.fold l r) ∷ map (λ job. (job, own_value m job)) (jobs_put es)) row
values_are m s n (Retire w ∷ es) h g =
    let p = legal_parts s (Retire w) es h in
    values_are m (next_state s (Retire w)) n es p.1 (going_next m s n (Retire w) p.0 g)

pub own_values : (m : Makes) (workers pages : ℕ) (needs : List (List ℕ)) (es : List Event) → NeedsHold m needs → is_legal (opening workers pages needs) es ≡ true → values m es ≡ map (λ job. (job, own_value m job)) (jobs_put es)
own_values m workers pages needs es hold h =
    values_are m (opening workers pages needs) nothing_seen es h (record {
      hold = hold;
      size = length-replicate (length needs) Free;
      right = record {
        put = λ p is. let one : bit (is_page_done (replicate pages Free) p) ≡ 1 = ap bit is in absurd (omega (arith, one, done_is (replicate pages Free) p, fresh done_at 0 refl refl pages p));
        rows = λ l v at. let e : true ≡ false = sym (ap is_given at) ∙ fresh is_given false refl refl (length needs) l in cc;
      };
    })

-- a job that was counted is in the list
counted_at : (f : JobId → Bool) (x : JobId) (xs : List JobId) (b : Bool) → f x ≡ b → 1 ≤ bit b + count_by f xs → (1 ≤ count_by f xs → list_any f xs ≡ true) → list_any f (x ∷ xs) ≡ true
counted_at f x xs true is some more = ap (λ (b : Bool). b || list_any f xs) is
counted_at f x xs false is some more = or_right (f x) (list_any f xs) (more (omega (arith, some)))

counted : (f : JobId → Bool) (xs : List JobId) → 1 ≤ count_by f xs → list_any f xs ≡ true
counted f [] some = absurd (omega arith)
counted f (x ∷ xs) some = counted_at f x xs (f x) refl (omega (arith, some, sum_by-cons (λ y. cond (f y) 1 0) x xs)) (λ more. counted f xs more)

same_self : (job : JobId) → same_job job job ≡ true
same_self (Page j) = grind (arith, nat_tests)
same_self (Launch l) = grind (arith, nat_tests)

-- a job in the list is counted
contained : (job : JobId) (xs : List JobId) → Contains xs job → 1 ≤ count_by (same_job job) xs
contained job xs is =
    let le = get_or-le-sum_by (λ y. cond (same_job job y) 1 0) xs is.0 job is.1 in
    let one : bit (same_job job (get_or xs is.0 job)) ≡ 1 = ap (λ y. bit (same_job job y)) is.2 ∙ ap bit (same_self job) in
    omega (arith, le, one)

done_one : (o : Option JobState) → done_at o ≡ 1 → o ≡ Some Done
done_one None e = absurd (omega (arith, e))
done_one (Some Free) e = absurd (omega (arith, e))
done_one (Some (Held w)) e = absurd (omega (arith, e))
done_one (Some Done) e = refl

pub done_are_put : (workers pages : ℕ) (needs : List (List ℕ)) (es : List Event) → is_legal (opening workers pages needs) es ≡ true
    → (job : JobId) → (state_of (replay (opening workers pages needs) es) job ≡ Some Done) ↔ Contains (jobs_put es) job
done_are_put workers pages needs es h job = (
  λ is.
      let one : done_at (state_of (replay s es) job) ≡ 1 = ap done_at is in
      Contains-from_any {eq = same_job} same_job-is job (jobs_put es) (counted (same_job job) (jobs_put es) (omega (arith, count, one, none))),
  λ is.
      let some = contained job (jobs_put es) is in
      done_one (state_of (replay s es) job) (omega (arith, count, none, some, done_at-le (state_of (replay s es) job))),
)
  where
    s : CoreState
    s = opening workers pages needs

    count : done_at (state_of (replay s es) job) ≡ done_at (state_of s job) + count_by (same_job job) (jobs_put es)
    count = omega (arith, put_run s es job h, puts_are es job)

    none : done_at (state_of s job) ≡ 0
    none = fresh_job done_at 0 refl refl workers pages needs job
