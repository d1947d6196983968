-- Lists that go on from plans that agree are the same.
use Rattle.std.proofs.Common.{◌≡◌, ℕ, ◌+◌, ◌∙◌, refl, sym, subst, ap, Bool, true, false, cond, not, eqb, List, [], ◌∷◌, ◌++◌}
use Rattle.std.specs.Prelude.{Ok, Err, Option, Some, None, Result}
use Rattle.std.specs.List.{slice_get}
use Rattle.refusal.specs.Answer.{◌>>=◌, with_front}
use Rattle.refusal.specs.Checks.{Check, unless_refused}
use Rattle.rmm_model.specs.Blocks.{granules}
use Rattle.rmm_model.specs.Space.{has, is_ram}
use Rattle.rmm_model.proofs.TestsThatAgree.{list_all-same, list_any-same}
use Rattle.rtt_plan.specs.Planned.{Planned, after_data, after_region, data_checks, region_checks}
use Rattle.rtt_plan.specs.declared.fault.PlanFault.{PlanFault}
use Rattle.rtt_plan.specs.Runs.{runs_of}
use Rattle.rtt_plan.proofs.PlansGoOnAlike.{after_data-alike, after_region-alike, agrees-refl, agrees-trans}
use Rattle.list_model.specs.Entries.{Entry, delegated, granule, item_entries, rec_entries, region_entries}
use Rattle.list_model.proofs.EntriesOfActs.{pages-alike, runs-alike}
use Rattle.rim_launch.specs.LaunchData.{LaunchData}
use Rattle.rim_launch.specs.declared.config.Config.{Config}
use Rattle.rim_launch.specs.declared.item.Region.{Region}
use Rattle.rim_launch.specs.declared.step.Step.{Step}
use Rattle.rim_launch.specs.declared.step.Step.TheVariants as step
use Rattle.ipa_layout.specs.Layout.{PlacedData}
use Rattle.ipa_layout.specs.declared.placed.PlacedItem.{PlacedItem}
use Rattle.ipa_layout.specs.declared.rec.PlacedRec.{PlacedRec}
use Rattle.rmi_list.specs.declared.fault.ListFault.{ListFault}
use Rattle.rmi_list.specs.declared.fault.ListFault.TheVariants as fault
use Rattle.rmi_list.specs.RecParams.{rec_params}
use Rattle.rmi_list.specs.Listed.{lacks_rule, Listing, Progress, list_item, list_named, list_rec, list_region, list_step, list_steps, plan_checks, pool_check}
use Rattle.rmi_list.specs.Measured.{page_base, page_content}
use Rattle.rmi_list.specs.inside.Drafts.{SameProgress}

-- two answers with the same entries, which go on alike; or the same refusal
abbrev AreAlike : Result Listing ListFault → Result Listing ListFault → Type 0
AreAlike (Ok a) (Ok b) = (a.entries ≡ b.entries) × SameProgress a.next b.next
AreAlike (Err e) (Err f) = e ≡ f
AreAlike a b = ⊥

if-alike : (c : Bool) (e : ListFault) (x y : Result Listing ListFault) → AreAlike x y → AreAlike (cond c (Err e) x) (cond c (Err e) y)
if-alike true e x y alike = refl
if-alike false e x y alike = alike

same-checked : (checks : List (Check ListFault)) (a b : Listing) → (a.entries ≡ b.entries) × SameProgress a.next b.next
    → AreAlike (unless_refused checks a) (unless_refused checks b)
same-checked [] a b alike = alike
same-checked (check ∷ checks) a b alike = if-alike check.1 check.0 (unless_refused checks a) (unless_refused checks b) (same-checked checks a b alike)

checked-alike : (checks others : List (Check ListFault)) (a b : Listing) → checks ≡ others → a.entries ≡ b.entries → SameProgress a.next b.next
    → AreAlike (unless_refused checks a) (unless_refused others b)
checked-alike checks others a b same entries next = rw same (same-checked others a b (entries, next))

-- ---- steps

-- a step that the planner takes: its checks, and then the pool's
abbrev planned_checks : Config → Progress → List (Check PlanFault) → List Entry → List (Check ListFault)
planned_checks c u checks es = plan_checks checks ++ pool_check c u.taken es ∷ []

same-checks : (c : Config) (v w : Progress) (checks others : List (Check PlanFault)) (es fs : List Entry) → v.taken ≡ w.taken → checks ≡ others → es ≡ fs
    → planned_checks c v checks es ≡ planned_checks c w others fs
same-checks c v w checks others es fs taken same entries = rw (taken, same, entries) refl

same-taken : (v w : Progress) (es fs : List Entry) → v.taken ≡ w.taken → es ≡ fs → v.taken + delegated es ≡ w.taken + delegated fs
same-taken v w es fs taken entries = rw (taken, entries) refl

region-alike : (c : Config) (v w : Progress) (r : Region) → SameProgress v w → AreAlike (list_region c v r) (list_region c w r)
unfolding list_region
region-alike c v w r same =
    let p : Planned = v.plan in
    let q : Planned = w.plan in
    let space = same.plan.space in
    let es : List Entry = region_entries c.pool_base v.taken p r.base r.end in
    let fs : List Entry = region_entries c.pool_base w.taken q r.base r.end in
    let entries : es ≡ fs =
    rw (same.taken, space.start, same.plan.least_level) (runs-alike c.pool_base q.space.start (runs_of r.base r.end q.least_level) w.taken p.space.tables q.space.tables space.tables) in
    let checks : region_checks p r.base r.end ≡ region_checks q r.base r.end =
    rw (space.protected_end, space.ranges r.base r.end r.ordered, same.plan.entries, same.plan.least_level) refl in
    checked-alike (planned_checks c v (region_checks p r.base r.end) es) (planned_checks c w (region_checks q r.base r.end) fs)
    (record { entries = es; next = record v { plan = after_region p r.base r.end; taken = v.taken + delegated es } })
    (record { entries = fs; next = record w { plan = after_region q r.base r.end; taken = w.taken + delegated fs } })
    (same-checks c v w (region_checks p r.base r.end) (region_checks q r.base r.end) es fs same.taken checks entries) entries
    (record { plan = after_region-alike p q r.base r.end same.plan; taken = same-taken v w es fs same.taken entries; num_recs = same.num_recs })

item-alike : (c : Config) (v w : Progress) (number : ℕ) (item : PlacedItem) → SameProgress v w → AreAlike (list_item c v number item) (list_item c w number item)
unfolding list_item
item-alike c v w number item same = by_pages (eqb item.pages 0)
  where
    base : ℕ
    base = page_base item

    entries_at : Progress → List Entry
    entries_at u = item_entries c.pool_base u.taken u.plan (page_content item) number base item.pages

    made : Progress → Listing
    made u = record { entries = entries_at u; next = record u { plan = after_data u.plan base item.pages; taken = u.taken + delegated (entries_at u) } }

    checks_at : Progress → List (Check ListFault)
    checks_at u = planned_checks c u (data_checks u.plan base item.pages) (entries_at u)

    by_pages : (none : Bool) → AreAlike (cond none (Ok (record { entries = []; next = v })) (unless_refused (checks_at v) (made v)))
        (cond none (Ok (record { entries = []; next = w })) (unless_refused (checks_at w) (made w)))
    by_pages true = (refl, same)
    by_pages false =
        let p : Planned = v.plan in
        let q : Planned = w.plan in
        let space = same.plan.space in
        let xs : List ℕ = granules item.pages base in
        let entries : entries_at v ≡ entries_at w =
        rw (same.taken, space.start) (pages-alike c.pool_base q.space.start (page_content item) number xs 0 w.taken p.space.tables q.space.tables space.tables) in
        let checks : data_checks p base item.pages ≡ data_checks q base item.pages =
        rw (space.protected_end, list_all-same (is_ram p.space.ram) (is_ram q.space.ram) xs space.ram, list_any-same (has p.space.assigned) (has q.space.assigned) xs space.assigned) refl in
        checked-alike (checks_at v) (checks_at w) (made v) (made w)
        (same-checks c v w (data_checks p base item.pages) (data_checks q base item.pages) (entries_at v) (entries_at w) same.taken checks entries) entries
        (record { plan = after_data-alike p q base item.pages same.plan; taken = same-taken v w (entries_at v) (entries_at w) same.taken entries; num_recs = same.num_recs })

-- a REC is listed by the granules and RECs so far, and by no plan
rec-alike : (c : Config) (v w : Progress) (number : ℕ) (r : PlacedRec) → SameProgress v w → AreAlike (list_rec c v number r) (list_rec c w number r)
unfolding list_rec
rec-alike c v w number r same =
    checked-alike (checks_at v) (checks_at w) (made v) (made w) (rw (same.taken, same.num_recs) refl) (rw same.taken refl)
    (record { plan = same.plan; taken = rw same.taken refl; num_recs = ap (λ (n : ℕ). n + 1) same.num_recs })
  where
    entries_at : Progress → List Entry
    entries_at u = rec_entries c.pool_base u.taken c.num_aux (rec_params number r (granules c.num_aux (granule c.pool_base (u.taken + 1))))

    made : Progress → Listing
    made u = record { entries = entries_at u; next = record u { taken = u.taken + delegated (entries_at u); num_recs = u.num_recs + 1 } }

    checks_at : Progress → List (Check ListFault)
    checks_at u = (fault.RecOrder, not (eqb number u.num_recs)) ∷ (fault.RecNotRunnable, lacks_rule c.rec_rule r) ∷ pool_check c u.taken (entries_at u) ∷ []

named-alike : {A : Type 0} (v w : Progress) (f g : A → Result Listing ListFault) (o : Option A) → SameProgress v w → ((x : A) → AreAlike (f x) (g x))
    → AreAlike (list_named v f o) (list_named w g o)
named-alike v w f g None same alike = (refl, same)
named-alike v w f g (Some x) same alike = alike x

step-alike : (l : LaunchData) (p : PlacedData) (v w : Progress) (s : Step) → SameProgress v w → AreAlike (list_step l p v s) (list_step l p w s)
step-alike l p v w (step.Ram n) same = named-alike v w _ _ (slice_get l.ram n) same (λ r. region-alike l.config v w r same)
step-alike l p v w (step.Item n) same = named-alike v w _ _ (slice_get p.items n) same (λ i. item-alike l.config v w n i same)
step-alike l p v w (step.Rec n) same = named-alike v w _ _ (slice_get p.recs n) same (λ r. rec-alike l.config v w n r same)

-- so a step that one takes is taken by the other, and one that it refuses is refused
pub step-taken : (l : LaunchData) (p : PlacedData) (v w : Progress) (s : Step) (done : Listing) → SameProgress v w → list_step l p v s ≡ Ok done
    → (other : Listing) × (list_step l p w s ≡ Ok other) × SameProgress done.next other.next
step-taken l p v w s done same at = by_answers (list_step l p w s) (subst (λ (r : Result Listing ListFault). AreAlike r (list_step l p w s)) at (step-alike l p v w s same))
  where
    by_answers : (r : Result Listing ListFault) → AreAlike (Ok done) r → (other : Listing) × (r ≡ Ok other) × SameProgress done.next other.next
    by_answers (Ok other) alike = (other, refl, alike.1)
    by_answers (Err e) alike = absurd alike

pub step-refused : (l : LaunchData) (p : PlacedData) (v w : Progress) (s : Step) (e : ListFault) → SameProgress v w → list_step l p v s ≡ Err e → list_step l p w s ≡ Err e
step-refused l p v w s e same at = by_answers (list_step l p w s) (subst (λ (r : Result Listing ListFault). AreAlike r (list_step l p w s)) at (step-alike l p v w s same))
  where
    by_answers : (r : Result Listing ListFault) → AreAlike (Err e) r → r ≡ Err e
    by_answers (Ok other) alike = absurd alike
    by_answers (Err f) alike = ap (λ (g : ListFault). Err g) (sym alike)

pub progress-refl : (v : Progress) → SameProgress v v
progress-refl v = record { plan = agrees-refl v.plan; taken = refl; num_recs = refl }

pub progress-trans : (u v w : Progress) → SameProgress u v → SameProgress v w → SameProgress u w
progress-trans u v w first second =
    record { plan = agrees-trans u.plan v.plan w.plan first.plan second.plan; taken = first.taken ∙ second.taken; num_recs = first.num_recs ∙ second.num_recs }

then-alike : (a b : Result Listing ListFault) (f : Progress → Result (List Entry) ListFault) → AreAlike a b → ((v w : Progress) → SameProgress v w → f v ≡ f w)
    → (a >>= λ done. with_front done.entries (f done.next)) ≡ (b >>= λ done. with_front done.entries (f done.next))
then-alike (Ok a) (Ok b) f alike on = ap (λ es. with_front es (f a.next)) (alike.0) ∙ ap (with_front b.entries) (on a.next b.next (alike.1))
then-alike (Ok a) (Err e) f alike on = absurd alike
then-alike (Err e) (Ok b) f alike on = absurd alike
then-alike (Err e) (Err g) f alike on = ap (λ x. Err x) alike

pub steps-alike : (l : LaunchData) (p : PlacedData) (ss : List Step) (v w : Progress) → SameProgress v w → list_steps l p v ss ≡ list_steps l p w ss
unfolding list_steps
steps-alike l p [] v w same = refl
steps-alike l p (s ∷ ss) v w same = then-alike (list_step l p v s) (list_step l p w s) (λ u. list_steps l p u ss) (step-alike l p v w s same) (λ a b on. steps-alike l p ss a b on)
