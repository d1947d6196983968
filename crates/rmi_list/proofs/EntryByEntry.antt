-- A list grows entry by entry, or is refused for the entries that are left.
use Rattle.std.proofs.Common.{inl, inr, ◌≡◌, ℕ, zero, suc, ◌+◌, ◌-◌, ◌<◌, ◌∙◌, sym, refl, ap, subst, arith, List, [], ◌∷◌, ◌++◌, append_assoc, length}
use Rattle.std.specs.Prelude.{slice_index_or}
use Rattle.std.proofs.lemmas.List.{append-nil}
use Rattle.std.proofs.Math.ListN.{drop}
use Rattle.rim_desc.specs.declared.command.Command.TheVariants.{Delegate}
use Rattle.rmm_model.specs.Blocks.{granules}
use Rattle.rtt_plan.specs.declared.act.Act.{Act}
use Rattle.list_model.specs.Entries.{Entry, Whole, delegate_all, delegated, granule}
use Rattle.list_model.specs.inside.Acts.{ItemOf, act_entries, entries_of_act, pages_in}
use Rattle.list_model.proofs.GranulesOfEntries.{count-append}
use Rattle.rim_launch.specs.declared.config.Config.{Config}
use Rattle.rmi_list.specs.declared.draft.Draft.{Draft}
use Rattle.rmi_list.specs.declared.step_fault.StepFault.{StepFault}
use Rattle.rmi_list.specs.inside.Acts.{HasRoom, HaveRoom}
use Rattle.rmi_list.specs.inside.Drafts.{AreSpans, Grows, InPool, Refuses, entries_in}

abbrev pub pool_of : Draft → ℕ
pool_of d = d.config.pool_base

-- ---- loops

-- in a loop that adds some entries: these are left to be added, and nothing but entries and granules has changed
pub record Going (old now : Draft) (all rest : List Entry) : Type 0 where
  pub launch : now.launch ≡ old.launch
  pub config : now.config ≡ old.config
  pub placed : now.placed ≡ old.placed
  pub tables : now.tables ≡ old.tables
  pub num_recs : now.num_recs ≡ old.num_recs
  pub entries : entries_in now ++ rest ≡ entries_in old ++ all
  pub taken : now.taken + delegated rest ≡ old.taken + delegated all
  pub pool : InPool old → InPool now
  pub spans : AreSpans old → AreSpans now

pub going-starts : (d : Draft) (all : List Entry) → Going d d all all
going-starts d all = record { launch = refl; config = refl; placed = refl; tables = refl; num_recs = refl; entries = refl; taken = refl; pool = λ within. within; spans = λ all. all }

pub going-ends : (old now : Draft) (all rest : List Entry) → Going old now all rest → rest ≡ [] → Grows old now all
going-ends old now all rest going none =
    let over : Going old now all [] = rw (← none) going in
    let count : now.taken + delegated [] ≡ old.taken + delegated all = over.taken in
    record {
      launch = over.launch;
      config = over.config;
      placed = over.placed;
      tables = over.tables;
      num_recs = over.num_recs;
      entries = sym (append-nil (entries_in now)) ∙ over.entries;
      taken = omega arith;
      pool = over.pool;
      spans = over.spans;
    }

-- one round: it adds some entries of the pool that the list has, and those after them begin at the next granule
pub going-on : (old now next : Draft) (all rest : List Entry) (here later : ℕ → List Entry) → Going old now all rest
    → rest ≡ here (pool_of old) ++ later (now.taken + delegated (here (pool_of old))) → Grows now next (here (pool_of now)) → Going old next all (later next.taken)
going-on old now next all rest here later going split grows =
    let pool : pool_of now ≡ pool_of old = ap (λ (c : Config). c.pool_base) going.config in
    let grown : Grows now next (here (pool_of old)) = subst (λ (p : ℕ). Grows now next (here p)) pool grows in
    let es : List Entry = here (pool_of old) in
    let more : next.taken ≡ now.taken + delegated es = grown.taken in
    let parts : rest ≡ es ++ later next.taken = split ∙ ap (λ t. es ++ later t) (sym more) in
    let count : delegated (es ++ later next.taken) ≡ delegated es + delegated (later next.taken) = count-append es (later next.taken) in
    let same : delegated rest ≡ delegated (es ++ later next.taken) = ap delegated parts in
    let before : now.taken + delegated rest ≡ old.taken + delegated all = going.taken in
    record {
      launch = grown.launch ∙ going.launch;
      config = grown.config ∙ going.config;
      placed = grown.placed ∙ going.placed;
      tables = grown.tables ∙ going.tables;
      num_recs = grown.num_recs ∙ going.num_recs;
      entries = ap (λ xs. xs ++ later next.taken) grown.entries ∙ append_assoc (entries_in now) es (later next.taken) ∙ ap (λ xs. entries_in now ++ xs) (sym parts) ∙ going.entries;
      taken = omega arith;
      pool = λ within. grown.pool (going.pool within);
      spans = λ all. grown.spans (going.spans all);
    }

-- what is refused for the next entries is refused for all
pub going-refused : (old now : Draft) (all rest : List Entry) (here later : ℕ → List Entry) (e : StepFault) → Going old now all rest
    → rest ≡ here (pool_of old) ++ later (now.taken + delegated (here (pool_of old))) → Refuses now e (here (pool_of now)) → Refuses old e all
going-refused old now all rest here later e going split (inl memory) = inl memory
going-refused old now all rest here later e going split (inr full) =
    let es : List Entry = here (pool_of old) in
    let others : List Entry = later (now.taken + delegated es) in
    let pool : pool_of now ≡ pool_of old = ap (λ (c : Config). c.pool_base) going.config in
    let size : now.config.pool_count ≡ old.config.pool_count = ap (λ (c : Config). c.pool_count) going.config in
    let count : delegated (es ++ others) ≡ delegated es + delegated others = count-append es others in
    let same : delegated rest ≡ delegated (es ++ others) = ap delegated split in
    let before : now.taken + delegated rest ≡ old.taken + delegated all = going.taken in
    let small : now.config.pool_count < now.taken + delegated es = subst (λ (p : ℕ). now.config.pool_count < now.taken + delegated (here p)) pool full.1 in
    inr (full.0, omega arith)

-- ---- granules that are delegated

abbrev pub delegation : Draft → ℕ → List Entry
delegation now pool = Whole (Delegate (granule pool now.taken)) ∷ []

-- the delegations that are left, in a loop over `count` of them
abbrev pub delegations_left : Draft → ℕ → ℕ → ℕ → List Entry
delegations_left old count i taken = delegate_all (granules (count - i) (granule (pool_of old) taken))

pub next-delegation : (pool taken count i : ℕ) → i < count
    → delegate_all (granules (count - i) (granule pool taken)) ≡ Whole (Delegate (granule pool taken)) ∷ delegate_all (granules (count - (i + 1)) (granule pool (taken + 1)))
unfolding granules
next-delegation pool taken count i lt =
    let e : count - i ≡ suc (count - (i + 1)) = omega arith in
    let f : granule pool (taken + 1) ≡ granule pool taken + 4096 = omega arith in
    rw (e, f) refl

-- ---- acts

pub drop-at : {A : Type 0} (xs : List A) (i : ℕ) (d : A) → i < length xs → drop i xs ≡ slice_index_or xs i d ∷ drop (i + 1) xs
drop-at [] i d lt = absurd (omega arith)
drop-at (x ∷ xs) zero d lt = refl
drop-at (x ∷ xs) (suc i) d lt = let e : suc i + 1 ≡ suc (i + 1) = omega arith in rw e (drop-at xs i d (omega arith))

abbrev pub act_here : Draft → ItemOf → ℕ → Act → ℕ → List Entry
act_here now item k a pool = entries_of_act pool now.taken item k a

-- the acts that are left, in a loop over them
abbrev pub acts_left : Draft → ItemOf → ℕ → List Act → ℕ → ℕ → List Entry
acts_left old item k acts i taken = act_entries (pool_of old) taken item k (drop i acts)

pub next-act : (pool taken : ℕ) (item : ItemOf) (k : ℕ) (acts : List Act) (i : ℕ) (d : Act) → i < length acts
    → let here = entries_of_act pool taken item k (slice_index_or acts i d) in
    act_entries pool taken item k (drop i acts) ≡ here ++ act_entries pool (taken + delegated here) item (k + pages_in item (slice_index_or acts i d)) (drop (i + 1) acts)
unfolding act_entries
next-act pool taken item k acts i d lt = rw (drop-at acts i d lt) refl

pub room-here : (item : ItemOf) (k : ℕ) (acts : List Act) (i : ℕ) (d : Act) → i < length acts → HaveRoom item k (drop i acts)
    → HasRoom item k (slice_index_or acts i d) × HaveRoom item (k + pages_in item (slice_index_or acts i d)) (drop (i + 1) acts)
unfolding HaveRoom
room-here item k acts i d lt room =
    let all : HaveRoom item k (slice_index_or acts i d ∷ drop (i + 1) acts) = subst (HaveRoom item k) (drop-at acts i d lt) room in
    all
