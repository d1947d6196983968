-- After any legal list of events that leaves all jobs of a release done, the lines made of the values are the report's.
use Rattle.std.proofs.Common.{◌≡◌, ℕ, zero, suc, ◌+◌, ◌<◌, ◌∙◌, subst, true, false, Bool, List, [], ◌∷◌, ◌++◌, length, map, get_or, Option, Some, None, Result}
use Rattle.std.proofs.Common.{Ok, Err, refl, ap, sym, arith}
use Rattle.std.specs.Prelude.{◌==◌, if◌then◌else◌, IsSomeAnd, is_some, unwrap_or}
use Rattle.std.specs.List.{Contains, filter_map, list_all, slice_get}
use Rattle.std.specs.Result.{result_unwrap_or}
use Rattle.std.proofs.lemmas.List.{length-map, length-replicate}
use Rattle.std.proofs.lemmas.Option.{same_Some, slice_get_within}
use Rattle.std.proofs.lemmas.Bool.{and_parts}
use Rattle.std.proofs.lemmas.Bool.Decides.{nat_tests}
use Rattle.rim_desc.specs.declared.measurement.Measurement.{Measurement}
use Rattle.page_jobs.specs.Key.{IsRising}
use Rattle.page_jobs.specs.Page.{PageView, digest_of}
use Rattle.page_jobs.specs.Table as table
use Rattle.page_jobs.specs.Table.{IsTable, TableView, digest_at, digest_in, slot_of}
use Rattle.page_jobs.specs.declared.page.PageKey.{PageKey}
use Rattle.launch_plan.specs.Links.{PlanView, chain_of, keys_of}
use Rattle.launch_plan.specs.Reading.{IsReadOf}
use Rattle.launch_plan.specs.Rows.{IsFull, value_in}
use Rattle.job_core.specs.declared.job.Event.{Event}
use Rattle.job_core.specs.declared.job.JobId.{JobId}
use Rattle.job_core.specs.declared.job.JobId.TheVariants.{Page, Launch}
use Rattle.job_core.specs.declared.job.JobState.{JobState}
use Rattle.job_core.specs.declared.job.JobState.TheVariants.{Free, Held, Done}
use Rattle.job_core.specs.Jobs.{CoreState, is_done, is_over, opening}
use Rattle.job_core.specs.Events.{is_legal, jobs_put, replay}
use Rattle.job_core.specs.Values.{NeedsHold, own_value, values}
use Rattle.job_core.proofs.LegalLists.{size_run}
use Rattle.job_core.proofs.OwnValues.{done_are_put, own_values}
use Rattle.ipa_layout.specs.Layout.{PlacedData}
use Rattle.rim_manifest.specs.Launches.{AreNumbered, NamedData, ReleaseData}
use Rattle.rim_accepted.specs.Accepted.{accepted_of, rim_for}
use Rattle.rim_pages.specs.Pages.{release_pages}
use Rattle.rim_report.specs.Plans.{ArePlans, BeginsWith}
use Rattle.rim_accepted.specs.Lines.{line_of, line_with, lines_of}
use Rattle.rim_report.specs.Values.{IsRimOf, accepted_launches, as_digest, launch_value, measured_rim, put_accepted, lines_by, makes_of, next_job, outcome_by}
use Rattle.rim_report.specs.Values.{page_value, plan_pages, plan_value}
use Rattle.rim_accepted.specs.declared.audit_fault.AuditFault.{AuditFault}
use Rattle.rim_accepted.proofs.AcceptedLaunches.{refused-rim}
use Rattle.rim_accepted.proofs.LinesAreTrue.{accepted-measured}
use Rattle.rim_report.proofs.ChainsAreRims.{Later, later-next, plan-rim, release-rises, slot-low}

-- ---- the value that was put for a launch

-- the first job is the launch, or a later one is
first-value : (own : JobId → List ℕ) (l k : ℕ) (rest : Option (List ℕ)) (b : Bool) → (l == k) ≡ b → (b ≡ false → rest ≡ Some (own (Launch k)))
    → (if b then Some (own (Launch l)) else rest) ≡ Some (own (Launch k))
first-value own l k rest true is later = let same : l ≡ k = grind (arith, nat_tests) in ap (λ (n : ℕ). Some (own (Launch n))) same
first-value own l k rest false is later = later refl

put-value : (own : JobId → List ℕ) (jobs : List JobId) (k i : ℕ) → i < length jobs → get_or jobs i (Launch k) ≡ Launch k
    → launch_value (map (λ job. (job, own job)) jobs) k ≡ Some (own (Launch k))
put-value own [] k i lt at = absurd (omega (arith, lt))
put-value own (Page j ∷ jobs) k zero lt at = absurd (cc)
put-value own (Page j ∷ jobs) k (suc i) lt at = put-value own jobs k i (omega (arith, lt)) at
put-value own (Launch l ∷ jobs) k zero lt at =
    let same : l ≡ k = cc in
    first-value own l k (launch_value (map (λ job. (job, own job)) jobs) k) (l == k) refl (λ other. absurd (grind (arith, nat_tests, same, other)))
put-value own (Launch l ∷ jobs) k (suc i) lt at =
    let rest = put-value own jobs k i (omega (arith, lt)) at in
    first-value own l k (launch_value (map (λ job. (job, own job)) jobs) k) (l == k) refl (λ other. rest)

-- where all is done a launch is
done-at : (states : List JobState) (k : ℕ) → list_all is_done states ≡ true → k < length states → slice_get states k ≡ Some Done
done-at [] k all lt = absurd (omega (arith, lt))
done-at (Free ∷ states) k all lt = absurd (cc)
done-at (Held w ∷ states) k all lt = absurd (cc)
done-at (Done ∷ states) zero all lt = refl
done-at (Done ∷ states) (suc k) all lt = done-at states k all (omega (arith, lt))

-- each launch's own value was put
launch-put : (own : JobId → List ℕ) (workers pages : ℕ) (needs : List (List ℕ)) (es : List Event) → is_legal (opening workers pages needs) es ≡ true
    → is_over (replay (opening workers pages needs) es) ≡ true
    → (k : ℕ) → k < length needs → launch_value (map (λ job. (job, own job)) (jobs_put es)) k ≡ Some (own (Launch k))
launch-put own workers pages needs es legal over k lt =
    let s : CoreState = replay (opening workers pages needs) es in
    let all = (and_parts (list_all is_done s.pages) (list_all is_done s.launches) over).1 in
    let size = (size_run (opening workers pages needs) es legal).launches in
    let done = done-at s.launches k all (omega (arith, lt, size, length-replicate (length needs) Free)) in
    let put = (done_are_put workers pages needs es legal (Launch k)).0 done in
    put-value own (jobs_put es) k put.0 put.1 put.2

-- jobs with their own values
abbrev with_own : (JobId → List ℕ) → List JobId → List (JobId × List ℕ)
with_own own jobs = map (λ job. (job, own job)) jobs

-- a value that was given for a launch is the launch's own, and was put
given-at : (own : JobId → List ℕ) (jobs : List JobId) (k i : ℕ) (value : List ℕ) → i < length (with_own own jobs)
    → get_or (with_own own jobs) i (Launch k, value) ≡ (Launch k, value) → (i < length jobs) × (get_or jobs i (Launch k) ≡ Launch k) × (value ≡ own (Launch k))
given-at own [] k i value lt at = absurd (omega (arith, lt))
given-at own (job ∷ jobs) k zero value lt at =
    let same : job ≡ Launch k = ap (λ (x : JobId × List ℕ). x.0) at in
    let is : own job ≡ value = ap (λ (x : JobId × List ℕ). x.1) at in
    (omega arith, same, sym is ∙ ap own same)
given-at own (job ∷ jobs) k (suc i) value lt at =
    let rest = given-at own jobs k i value (omega (arith, lt)) at in
    (omega (arith, rest.0), rest.1, rest.2)

-- a launch that was put is one of the run's
put-low : (workers pages : ℕ) (needs : List (List ℕ)) (es : List Event) → is_legal (opening workers pages needs) es ≡ true
    → (k : ℕ) → Contains (jobs_put es) (Launch k) → k < length needs
put-low workers pages needs es legal k put =
    let s : CoreState = replay (opening workers pages needs) es in
    let size = (size_run (opening workers pages needs) es legal).launches in
    let done : slice_get s.launches k ≡ Some Done = (done_are_put workers pages needs es legal (Launch k)).1 put in
    omega (arith, slice_get_within s.launches k Done done, size, length-replicate (length needs) Free)

plan-there : (plans : List PlanView) (k : ℕ) → k < length plans → (v : PlanView) × (slice_get plans k ≡ Some v)
plan-there [] k lt = absurd (omega (arith, lt))
plan-there (v ∷ plans) zero lt = (v, refl)
plan-there (v ∷ plans) (suc k) lt = plan-there plans k (omega (arith, lt))

-- ---- a table of the pages, with all digests

slot_for : PageView → Option Measurement
slot_for p = Some (as_digest (digest_of p))

full_table : List PageView → TableView
full_table pages = record { pages = pages; digests = map slot_for pages }

full-slot : (pages : List PageView) (j : ℕ) → j < length pages → digest_in (full_table pages) j ≡ Some (as_digest (page_value pages j))
unfolding full_table slot_for
full-slot [] j lt = absurd (omega (arith, lt))
full-slot (p ∷ pages) zero lt = refl
full-slot (p ∷ pages) (suc j) lt = full-slot pages j (omega (arith, lt))

full-own : (pages : List PageView) (j : ℕ) (p : PageView) (m : Measurement) → slice_get pages j ≡ Some p → slice_get (map slot_for pages) j ≡ Some (Some m)
    → m.bytes ≡ digest_of p
unfolding slot_for
full-own [] j p m at slot = absurd (cc)
full-own (q ∷ pages) zero p m at slot =
    let same : q ≡ p = cc in
    let is : as_digest (digest_of q) ≡ m = cc in
    sym (ap (λ (d : Measurement). d.bytes) is) ∙ ap digest_of same
full-own (q ∷ pages) (suc j) p m at slot = full-own pages j p m at slot

full-is_table : (pages : List PageView) → IsRising (table.page_keys_of pages) → IsTable (full_table pages)
unfolding full_table
full-is_table pages rising = record { rising = rising; size = length-map pages slot_for; own = full-own pages }

full-is_full : (pages : List PageView) → IsFull (full_table pages)
unfolding full_table
full-is_full pages = λ j lt. ap is_some (full-slot pages j lt)

-- the digests of a plan's pages
row-values : (pages : List PageView) (keys : List PageKey)
    → filter_map (digest_at (full_table pages)) keys ≡ map as_digest (map (page_value pages) (filter_map (slot_of pages) keys))
unfolding full_table
row-values pages [] = refl
row-values pages (key ∷ keys) = at (slot_of pages key) refl (row-values pages keys)
  where
    at : (o : Option ℕ) → slot_of pages key ≡ o
        → filter_map (digest_at (full_table pages)) keys ≡ map as_digest (map (page_value pages) (filter_map (slot_of pages) keys))
        → filter_map (digest_at (full_table pages)) (key ∷ keys) ≡ map as_digest (map (page_value pages) (filter_map (slot_of pages) (key ∷ keys)))
    at None is rest = rw is rest
    at (Some j) is rest =
        let low : j < length pages = slot-low pages key j (record { key = key; bytes = [] }) is in
        rw (is, full-slot pages j low) (ap (λ (ds : List Measurement). as_digest (page_value pages j) ∷ ds) rest)

-- the own value of a launch is what its plan chains to
plan-own : (pages : List PageView) (plans : List PlanView) (k : ℕ) (v : PlanView) → slice_get plans k ≡ Some v
    → own_value (makes_of pages plans) (Launch k) ≡ value_in (full_table pages) v
plan-own pages plans k v at =
    ap (λ (o : Option PlanView). plan_value o (map (page_value pages) (plan_pages pages o))) at ∙ ap (chain_of v) (sym (row-values pages (keys_of v.links)))

-- ---- the lines

module _ (files : List (List ℕ)) (r : ReleaseData) (numbered : AreNumbered r) (read : length files ≡ length r.paths) where
  t : TableView
  t = full_table (release_pages files r.launches)

  rim-is : (i : ℕ) (l : NamedData) (p : PlacedData) (v : PlanView) → slice_get r.launches i ≡ Some l → accepted_of l.launch files ≡ Ok p
      → IsReadOf l.launch p v → rim_for l.launch files ≡ Ok (value_in t v)
  unfolding t full_table
  rim-is =
      plan-rim files r t numbered read (full-is_table (release_pages files r.launches) (release-rises files r.launches)) refl
      (full-is_full (release_pages files r.launches))

  lines-are : (given : List (JobId × List ℕ)) (ls : List NamedData) (plans : List PlanView) (n : ℕ) → Later r.launches ls → ArePlans files ls plans
      → ((k : ℕ) (v : PlanView) → slice_get plans k ≡ Some v → launch_value given (n + k) ≡ Some (value_in t v))
      → lines_by given files n ls ≡ lines_of files ls
  unfolding Later
  lines-are given [] plans n later are values = refl
  lines-are given (l ∷ ls) plans n later are values =
      by_place (accepted_of l.launch files) refl plans are values (λ m vs others each. lines-are given ls vs m (later-next r.launches l ls later) others each)
    where
      by_place : (place : Result PlacedData AuditFault) → accepted_of l.launch files ≡ place → (vs : List PlanView)
          → BeginsWith l.launch place (ArePlans files ls) vs
          → ((k : ℕ) (v : PlanView) → slice_get vs k ≡ Some v → launch_value given (n + k) ≡ Some (value_in t v))
          → ((m : ℕ) (us : List PlanView) → ArePlans files ls us
          → ((k : ℕ) (v : PlanView) → slice_get us k ≡ Some v → launch_value given (m + k) ≡ Some (value_in t v))
          → lines_by given files m ls ≡ lines_of files ls)
          → line_with l (outcome_by place (launch_value given n)) ++ lines_by given files (next_job place n) ls ≡ lines_of files (l ∷ ls)
      by_place (Err fault) is vs begins each rest =
          ap (λ (o : Result (List ℕ) AuditFault). line_with l o ++ lines_by given files n ls) (sym (refused-rim l.launch files fault is))
          ∙ ap (λ (text : List ℕ). line_of files l ++ text) (rest n vs begins each)
      by_place (Ok p) is [] begins each rest = absurd begins
      by_place (Ok p) is (v ∷ vs) begins each rest =
          let none : n + 0 ≡ n = omega arith in
          let here : launch_value given n ≡ Some (value_in t v) = ap (launch_value given) (sym none) ∙ each 0 v refl in
          let found = later 0 l refl in
          ap (λ (o : Result (List ℕ) AuditFault). line_with l o ++ lines_by given files (n + 1) ls)
          (ap (λ (o : Option (List ℕ)). Ok (unwrap_or o [])) here ∙ sym (rim-is found.0 l p v found.1 is begins.0))
          ∙ ap (λ (text : List ℕ). line_of files l ++ text)
          (rest (n + 1) vs begins.1 (λ k u at. let next : n + 1 + k ≡ n + suc k = omega arith in ap (launch_value given) next ∙ each (suc k) u at))

  pub values-make-lines : (plans : List PlanView) (workers : ℕ) (needs : List (List ℕ)) (es : List Event) → ArePlans files r.launches plans
      → length needs ≡ length plans → NeedsHold (makes_of (release_pages files r.launches) plans) needs
      → is_legal (opening workers (length (release_pages files r.launches)) needs) es ≡ true
      → is_over (replay (opening workers (length (release_pages files r.launches)) needs) es) ≡ true
      → lines_by (values (makes_of (release_pages files r.launches) plans) es) files 0 r.launches ≡ lines_of files r.launches
  unfolding Later t
  values-make-lines plans workers needs es are size hold legal over =
      let pages : List PageView = release_pages files r.launches in
      let own : JobId → List ℕ = own_value (makes_of pages plans) in
      let given = own_values (makes_of pages plans) workers (length pages) needs es hold legal in
      ap (λ (vs : List (JobId × List ℕ)). lines_by vs files 0 r.launches) given
      ∙ lines-are (map (λ job. (job, own job)) (jobs_put es)) r.launches plans 0 (λ i l at. (i, at)) are
      (λ k v at.
      let low : k < length needs = omega (arith, size, slice_get_within plans k v at) in
      let same : 0 + k ≡ k = omega arith in
      ap (launch_value (map (λ job. (job, own job)) (jobs_put es))) same ∙ launch-put own workers (length pages) needs es legal over k low
      ∙ ap (λ (bytes : List ℕ). Some bytes) (plan-own pages plans k v at))

  -- the plan of a number is that of the launch that is accepted of this number
  plans-are : (ls : List NamedData) (plans : List PlanView) (k : ℕ) (v : PlanView) → Later r.launches ls → ArePlans files ls plans → slice_get plans k ≡ Some v
      → IsRimOf files ls k (value_in t v)
  unfolding Later
  plans-are [] plans k v later are at =
      let none : slice_get plans k ≡ None = ap (λ (vs : List PlanView). slice_get vs k) are in
      absurd (cc)
  plans-are (l ∷ ls) plans k v later are at =
      by_place (accepted_of l.launch files) refl plans are k at (λ vs others j here. plans-are ls vs j v (later-next r.launches l ls later) others here)
    where
      by_place : (place : Result PlacedData AuditFault) → accepted_of l.launch files ≡ place → (vs : List PlanView)
          → BeginsWith l.launch place (ArePlans files ls) vs
          → (j : ℕ) → slice_get vs j ≡ Some v
          → ((us : List PlanView) → ArePlans files ls us → (i : ℕ) → slice_get us i ≡ Some v → IsRimOf files ls i (value_in t v))
          → IsSomeAnd (slice_get (put_accepted l.launch place (accepted_launches files ls)) j) (λ a. value_in t v ≡ measured_rim files a.0 a.1)
      by_place (Err fault) is vs begins j here rest = rest vs begins j here
      by_place (Ok p) is [] begins j here rest = absurd begins
      by_place (Ok p) is (u ∷ vs) begins zero here rest =
          let same : u ≡ v = same_Some u v here in
          let found = later 0 l refl in
          let one = rim-is found.0 l p v found.1 is (subst (IsReadOf l.launch p) same begins.0) in
          let other = accepted-measured files l.launch p is in
          ap (λ (o : Result (List ℕ) AuditFault). result_unwrap_or o []) (sym one ∙ other)
      by_place (Ok p) is (u ∷ vs) begins (suc j) here rest = rest vs begins.1 j here

  pub values-are-rims : (plans : List PlanView) (workers : ℕ) (needs : List (List ℕ)) (es : List Event) → ArePlans files r.launches plans
      → length needs ≡ length plans → NeedsHold (makes_of (release_pages files r.launches) plans) needs
      → is_legal (opening workers (length (release_pages files r.launches)) needs) es ≡ true
      → (k : ℕ) (value : List ℕ) → Contains (values (makes_of (release_pages files r.launches) plans) es) (Launch k, value) → IsRimOf files r.launches k value
  unfolding Later t
  values-are-rims plans workers needs es are size hold legal k value has =
      let pages : List PageView = release_pages files r.launches in
      let own : JobId → List ℕ = own_value (makes_of pages plans) in
      let given = own_values (makes_of pages plans) workers (length pages) needs es hold legal in
      let all : Contains (with_own own (jobs_put es)) (Launch k, value) = subst (λ (vs : List (JobId × List ℕ)). Contains vs (Launch k, value)) given has in
      let put = given-at own (jobs_put es) k all.0 value all.1 all.2 in
      let low = put-low workers (length pages) needs es legal k (all.0, put.0, put.1) in
      let plan = plan-there plans k (omega (arith, size, low)) in
      let is : value ≡ value_in t plan.0 = put.2 ∙ plan-own pages plans k plan.0 plan.1 in
      subst (IsRimOf files r.launches k) (sym is) (plans-are r.launches plans k plan.0 (λ i l at. (i, at)) are plan.1)
