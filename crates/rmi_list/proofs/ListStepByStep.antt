-- Step by step, a draft is the list of its launch so far, or is refused as the list is.
use Rattle.std.proofs.Common.{inl, inr, ◌≡◌, ℕ, ◌+◌, ◌<◌, ◌≤◌, ◌∙◌, sym, refl, ap, subst, arith, drop, take, true, false, List, [], ◌∷◌, ◌++◌, ◌⊎◌, append_assoc, length}
use Rattle.std.specs.Prelude.{Ok, Err, Option, Result, Some, nat_lt}
use Rattle.std.specs.List.{slice_get}
use Rattle.std.proofs.lemmas.Bool.Decides.{nat_tests}
use Rattle.refusal.specs.Answer.{◌>>=◌, with_front}
use Rattle.rim_desc.specs.declared.command.Command.TheVariants.{Activate}
use Rattle.list_model.specs.Entries.{Whole, delegated}
use Rattle.rim_launch.specs.LaunchData.{LaunchData}
use Rattle.rim_launch.specs.declared.config.Config.{Config}
use Rattle.rim_launch.specs.declared.step.Step.{Step}
use Rattle.ipa_layout.specs.Layout.{PlacedData}
use Rattle.ipa_layout.specs.declared.reason.IpaRange.{IpaRange}
use Rattle.rmi_list.specs.declared.draft.Draft.{Draft}
use Rattle.rmi_list.specs.declared.fault.ListFault.{ListFault}
use Rattle.rmi_list.specs.declared.fault.ListFault.TheVariants as fault
use Rattle.rmi_list.specs.declared.step_fault.StepFault.{StepFault}
use Rattle.rmi_list.specs.declared.step_fault.StepFault.TheVariants as step_fault
use Rattle.rmi_list.specs.Listed.{Listing, Progress, list_step, list_steps, listed, opening_progress, opening_entries}
use Rattle.rmi_list.specs.Granules.{granules_of, with_config}
use Rattle.rmi_list.specs.inside.Drafts.{AreSpans, Grows, InPool, IsWhole, Makes, SameProgress, entries_in, launch_of, progress_of}
use Rattle.rmi_list.specs.inside.Steps.{IsStepFault}
use Rattle.rmi_list.specs.Reason.{IsReason, Shows, after_steps, list_fault_of, step_extent, step_fault_of}
use Rattle.rmi_list.specs.declared.reason.ListReason.{ListReason}
use Rattle.rmi_list.specs.declared.reason.ListReason.TheVariants as reason
use Rattle.rmi_list.specs.declared.reason.StepReason.{StepReason}
use Rattle.list_model.proofs.GranulesOfEntries.{count-append}
use Rattle.rmi_list.proofs.ListsGoOnAlike.{progress-refl, progress-trans, step-refused, step-taken, steps-alike}
use Rattle.rim_desc.specs.declared.rec.TheConstants.{REC_LIMIT}

front-front : {A E : Type 0} (xs ys : List A) (r : Result (List A) E) → with_front xs (with_front ys r) ≡ with_front (xs ++ ys) r
front-front xs ys (Ok zs) = ap (λ all. Ok all) (sym (append_assoc xs ys zs))
front-front xs ys (Err e) = refl

-- a draft of this launch with this configuration, which has the entries of the steps before that of number n
pub record IsListing (m : LaunchData) (c : Config) (p : PlacedData) (d : Draft) (n : ℕ) : Type 0 where
  pub launch : d.launch.now ≡ m
  pub config : d.config ≡ c
  pub placed : d.placed.now ≡ p
  pub pool : InPool d
  pub counted : delegated (entries_in d) ≡ d.taken
  pub spans : AreSpans d
  pub listed : listed (with_config m c) p ≡ with_front (entries_in d) (list_steps (with_config m c) p (progress_of d) (drop n m.steps))
  -- what the definition has listed then
  pub before : Progress
  pub reached : after_steps (with_config m c) p (opening_progress c) (take n m.steps) ≡ Ok before
  pub same : SameProgress (progress_of d) before

-- ---- its begin

pub many-reason : (l : LaunchData) (p : PlacedData) → 512 < length p.recs → IsReason l p (reason.TooManyRecs (length p.recs))
unfolding listed
many-reason l p many = (let on : nat_lt REC_LIMIT (length p.recs) ≡ true = grind (arith, nat_tests) in record { refused = rw on refl; part = (refl, many) })

pub opening-reason : (l : LaunchData) (p : PlacedData) (e : StepFault) (why : StepReason) → length p.recs ≤ 512
    → (e ≡ step_fault.NoMemory) ⊎ (l.config.pool_count < delegated (opening_entries l.config)) → e ≡ step_fault.Refused why → IsReason l p reason.Opening
unfolding listed
opening-reason l p e why few (inl memory) own = absurd cc
opening-reason l p e why few (inr small) own =
    let off : nat_lt REC_LIMIT (length p.recs) ≡ false = grind (arith, nat_tests) in
    let on : nat_lt l.config.pool_count (0 + delegated (opening_entries l.config)) ≡ true = grind (arith, nat_tests) in
    record { refused = rw off (rw on refl); part = small }

pub listing-begins : (m : LaunchData) (c : Config) (p : PlacedData) (d : Draft) → length p.recs ≤ 512 → d.launch.now ≡ m → d.config ≡ c → d.placed.now ≡ p
    → entries_in d ≡ opening_entries c → progress_of d ≡ opening_progress c → InPool d → AreSpans d → IsListing m c p d 0
unfolding listed after_steps
listing-begins m c p d few launch config placed entries progress within spans =
    let off : nat_lt REC_LIMIT (length p.recs) ≡ false = grind (arith, nat_tests) in
    let taken : d.taken ≡ delegated (opening_entries c) = ap (λ (w : Progress). w.taken) progress in
    let size : d.config.pool_count ≡ c.pool_count = ap (λ (k : Config). k.pool_count) config in
    let room : nat_lt c.pool_count (0 + delegated (opening_entries c)) ≡ false = grind (arith, nat_tests) in
    record {
      launch = launch;
      config = config;
      placed = placed;
      pool = within;
      counted = ap delegated entries ∙ sym taken;
      spans = spans;
      listed = rw (off, room) (rw (entries, progress) refl);
      before = opening_progress c;
      reached = refl;
      same = rw progress (progress-refl (opening_progress c));
    }

-- ---- its steps

-- what a step answers, by the launch and the place that the draft has
same-launch : (m : LaunchData) (c : Config) (p : PlacedData) (d : Draft) (n : ℕ) → IsListing m c p d n → launch_of d ≡ with_config m c
same-launch m c p d n listing = ap (λ (k : LaunchData). with_config k d.config) listing.launch ∙ ap (with_config m) listing.config

same-step : (m : LaunchData) (c : Config) (p : PlacedData) (d : Draft) (n : ℕ) (s : Step) → IsListing m c p d n
    → list_step (launch_of d) d.placed.now (progress_of d) s ≡ list_step (with_config m c) p (progress_of d) s
same-step m c p d n s listing =
    ap (λ (l : LaunchData). list_step l d.placed.now (progress_of d) s) (same-launch m c p d n listing)
    ∙ ap (λ (q : PlacedData). list_step (with_config m c) q (progress_of d) s) listing.placed

after-one-more : (l : LaunchData) (p : PlacedData) (w v : Progress) (ss : List Step) (s : Step) (done : Listing) → after_steps l p w ss ≡ Ok v → list_step l p v s ≡ Ok done
    → after_steps l p w (ss ++ s ∷ []) ≡ Ok done.next
unfolding after_steps
after-one-more l p w v [] s done reached at = let same : w ≡ v = cc in rw (same, at) refl
after-one-more l p w v (t ∷ ss) s done reached at = from_first (list_step l p w t) reached (λ u on. after-one-more l p u v ss s done on at)
  where
    from_first : (r : Result Listing ListFault) → (r >>= λ first. after_steps l p first.next ss) ≡ Ok v
        → ((u : Progress) → after_steps l p u ss ≡ Ok v → after_steps l p u (ss ++ s ∷ []) ≡ Ok done.next)
        → (r >>= λ first. after_steps l p first.next (ss ++ s ∷ [])) ≡ Ok done.next
    from_first (Ok first) h again = again first.next h
    from_first (Err e) h again = absurd cc

pub listing-goes-on : (m : LaunchData) (c : Config) (p : PlacedData) (d e : Draft) (n : ℕ) (s : Step) → IsListing m c p d n
    → drop n m.steps ≡ s ∷ drop (n + 1) m.steps → take (n + 1) m.steps ≡ take n m.steps ++ s ∷ []
    → (done : Listing) × (list_step (launch_of d) d.placed.now (progress_of d) s ≡ Ok done) × Makes d e done → IsListing m c p e (n + 1)
unfolding list_steps
listing-goes-on m c p d e n s listing here next made =
    let l : LaunchData = with_config m c in
    let done : Listing = made.0 in
    let at : list_step l p (progress_of d) s ≡ Ok done = sym (same-step m c p d n s listing) ∙ made.1 in
    let makes : Makes d e done = made.2 in
    let ss : List Step = drop (n + 1) m.steps in
    let taken = step-taken l p (progress_of d) listing.before s done listing.same at in
    record {
      launch = ap (λ (k : _). k.now) makes.launch ∙ listing.launch;
      config = makes.config ∙ listing.config;
      placed = ap (λ (q : _). q.now) makes.placed ∙ listing.placed;
      pool = makes.pool;
      counted = (let all : delegated (entries_in e) ≡ delegated (entries_in d ++ done.entries) = ap delegated makes.entries in
          let both : delegated (entries_in d ++ done.entries) ≡ delegated (entries_in d) + delegated done.entries = count-append (entries_in d) done.entries in
          let before : delegated (entries_in d) ≡ d.taken = listing.counted in
          let more : e.taken ≡ d.taken + delegated done.entries = makes.taken in
          omega arith);
      spans = makes.spans listing.spans;
      listed = listing.listed ∙ ap (λ (rest : List Step). with_front (entries_in d) (list_steps l p (progress_of d) rest)) here
          ∙ rw at (front-front (entries_in d) done.entries (list_steps l p done.next ss)
          ∙ ap (λ es. with_front es (list_steps l p done.next ss)) (sym makes.entries)
          ∙ ap (with_front (entries_in e)) (sym (steps-alike l p ss (progress_of e) done.next makes.progress)));
      before = taken.0.next;
      reached = rw next (after-one-more l p (opening_progress c) listing.before (take n m.steps) s taken.0 listing.reached taken.1);
      same = progress-trans (progress_of e) done.next taken.0.next makes.progress taken.2;
    }

-- a step is refused, and its reason is known
pub listing-refused : (m : LaunchData) (c : Config) (p : PlacedData) (d : Draft) (n : ℕ) (s : Step) (e : StepFault) (why : StepReason) → IsListing m c p d n
    → drop n m.steps ≡ s ∷ drop (n + 1) m.steps → slice_get m.steps n ≡ Some s
    → IsStepFault (step_extent (launch_of d) d.placed.now s) d.num_recs e (list_step (launch_of d) d.placed.now (progress_of d) s) → e ≡ step_fault.Refused why
    → IsReason (with_config m c) p (reason.Step n s why)
unfolding list_steps
listing-refused m c p d n s e why listing here own (inl memory) is = absurd cc
listing-refused m c p d n s e why listing here own (inr refused) is =
    let l : LaunchData = with_config m c in
    let same : refused.0 ≡ why = cc in
    let at : list_step l p (progress_of d) s ≡ Err (step_fault_of why) =
    sym (same-step m c p d n s listing) ∙ refused.2 ∙ ap (λ (w : StepReason). Err (step_fault_of w)) same in
    let extent : step_extent (launch_of d) d.placed.now s ≡ step_extent l p s =
    ap (λ (k : LaunchData). step_extent k d.placed.now s) (same-launch m c p d n listing) ∙ ap (λ (q : PlacedData). step_extent l q s) listing.placed in
    let shown : Shows (step_extent l p s) d.num_recs why =
    subst (λ (o : Option IpaRange). Shows o d.num_recs why) extent (subst (Shows (step_extent (launch_of d) d.placed.now s) d.num_recs) same refused.3) in
    record {
      refused = listing.listed ∙ ap (λ (rest : List Step). with_front (entries_in d) (list_steps l p (progress_of d) rest)) here ∙ rw at refl;
      part = record {
        before = listing.before;
        in_launch = own;
        reached = listing.reached;
        refused = step-refused l p (progress_of d) listing.before s (step_fault_of why) listing.same at;
        shown = subst (λ (k : ℕ). Shows (step_extent l p s) k why) listing.same.num_recs shown;
      };
    }

-- ---- its end

pub listing-ends : (m : LaunchData) (c : Config) (p : PlacedData) (d e : Draft) (n : ℕ) → length p.recs ≤ 512 → IsListing m c p d n → drop n m.steps ≡ []
    → Grows d e (Whole Activate ∷ []) → IsWhole (with_config m c) p e
unfolding list_steps
listing-ends m c p d e n few listing over grows =
    let l : LaunchData = with_config m c in
    let all : delegated (entries_in e) ≡ delegated (entries_in d ++ Whole Activate ∷ []) = ap delegated grows.entries in
    let both : delegated (entries_in d ++ Whole Activate ∷ []) ≡ delegated (entries_in d) + 0 = count-append (entries_in d) (Whole Activate ∷ []) in
    let before : delegated (entries_in d) ≡ d.taken = listing.counted in
    let more : e.taken ≡ d.taken + 0 = grows.taken in
    let recs : e.placed.now.recs ≡ p.recs = ap (λ (q : _). q.now.recs) grows.placed ∙ ap (λ (q : PlacedData). q.recs) listing.placed in
    record {
      listed = listing.listed ∙ ap (λ (rest : List Step). with_front (entries_in d) (list_steps l p (progress_of d) rest)) over
          ∙ ap (λ es. Ok es) (sym grows.entries);
      taken = omega arith;
      pool = grows.pool listing.pool;
      spans = grows.spans listing.spans;
      recs = rw recs few;
    }

-- so the granules that it has taken are those of the launch
pub whole-granules : (l : LaunchData) (p : PlacedData) (d : Draft) → IsWhole l p d → Some d.taken ≡ granules_of (listed l p)
whole-granules l p d whole = rw (whole.listed, whole.taken) refl

-- a reason is never want of memory, so it refuses the list
pub reason-refuses : (l : LaunchData) (p : PlacedData) (why : ListReason) → IsReason l p why → (list_fault_of why ≡ fault.NoMemory) ⊎ (listed l p ≡ Err (list_fault_of why))
reason-refuses l p why is = inr is.refused
