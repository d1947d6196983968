-- The entries of a step, read off the acts of a plan; and plans with the same tables list alike.
use Rattle.std.proofs.Common.{inl, inr, ◌≡◌, ℕ, suc, ◌+◌, ◌/◌, ◌∙◌, refl, ap, arith, ◌&&◌, eqb, List, [], ◌∷◌, ◌++◌, length, map}
use Rattle.std.specs.Prelude.{Some, None}
use Rattle.rim_desc.specs.declared.command.Command.TheVariants.{Delegate, InitRipas, RttCreate}
use Rattle.std.proofs.lemmas.Bool.{cases_Bool}
use Rattle.std.proofs.lemmas.Bool.Decides.{nat_tests}
use Rattle.rmm_model.specs.Blocks.{granules, span}
use Rattle.rmm_model.specs.Space.{SameTables}
use Rattle.rmm_model.specs.declared.table.Table.{Table}
use Rattle.rmm_model.proofs.SameSpaces.{append-alike}
use Rattle.rtt_plan.specs.Missing.{missing, page_acts, put_page, run_acts, table_act}
use Rattle.rtt_plan.specs.declared.act.Act.{Act}
use Rattle.rtt_plan.specs.declared.act.Act.TheVariants as act
use Rattle.rtt_plan.specs.declared.run.Run.{Run}
use Rattle.rtt_plan.proofs.PlansGoOnAlike.{missing-alike}
use Rattle.list_model.specs.declared.content.PageContent.{PageContent}
use Rattle.list_model.specs.declared.content.PageContent.TheVariants.{Measured, Unmeasured, Unknown}
use Rattle.list_model.specs.Entries.{Entry, Whole, delegated, granule, page_entries, page_entry, run_entries, table_entries}
use Rattle.list_model.specs.inside.Acts.{ItemOf, act_entries, entries_of_pages, pages_in}

-- ---- the entries of acts

tables-first : (pool : ℕ) (item : ItemOf) (k : ℕ) (ts : List Table) (n : ℕ) (acts : List Act)
    → act_entries pool n item k (map table_act ts ++ acts) ≡ table_entries pool n ts ++ act_entries pool (n + length ts) item k acts
unfolding act_entries table_entries
tables-first pool item k [] n acts = let e : n + 0 ≡ n = omega arith in rw e refl
tables-first pool item k (t ∷ ts) n acts =
    let e : n + length (t ∷ ts) ≡ n + 1 + length ts = omega arith in
    let f : k + 0 ≡ k = omega arith in
    rw (e, no-pages item t, f)
    (ap (λ (es : List Entry). Whole (Delegate (granule pool n)) ∷ Whole (RttCreate (granule pool n) t.base t.level) ∷ es) (tables-first pool item k ts (n + 1) acts))
  where
    no-pages : (item : ItemOf) (t : Table) → pages_in item (table_act t) ≡ 0
    no-pages None t = refl
    no-pages (Some i) t = refl

no-pages-in-run : (item : ItemOf) (r : Run) → pages_in item (act.Run r.base r.top r.level) ≡ 0
no-pages-in-run None r = refl
no-pages-in-run (Some i) r = refl

pub acts-of-runs : (pool start : ℕ) (item : ItemOf) (k : ℕ) (rs : List Run) (n : ℕ) (ts : List Table)
    → act_entries pool n item k (run_acts start ts rs) ≡ run_entries pool n start ts rs
unfolding act_entries run_acts run_entries
acts-of-runs pool start item k [] n ts = refl
acts-of-runs pool start item k (r ∷ rs) n ts =
    let new : List Table = missing start ts r.level r.base in
    let e : n + length new + 0 ≡ n + length new = omega arith in
    let f : k + 0 ≡ k = omega arith in
    tables-first pool item k new n (act.Run r.base r.top r.level ∷ run_acts start (ts ++ new) rs)
    ∙ rw (no-pages-in-run item r, e, f)
    (ap (λ (es : List Entry). table_entries pool n new ++ (Whole (InitRipas r.base r.top) ∷ es)) (acts-of-runs pool start item k rs (n + length new) (ts ++ new)))

-- the entries of one page, before those of acts that begin with the next page of the item
page-first : ℕ → ℕ → PageContent → ℕ → ℕ → ℕ → List Act → List Entry
page-first pool n content item k x acts =
    Whole (Delegate (granule pool n)) ∷ page_entry content (granule pool n) x item k ∷ act_entries pool (n + 1) (Some (content, item)) (k + 1) acts

delegated-page : (pool n : ℕ) (content : PageContent) (item k x : ℕ) (es : List Entry)
    → delegated (Whole (Delegate (granule pool n)) ∷ page_entry content (granule pool n) x item k ∷ es) ≡ suc (delegated es)
delegated-page pool n Measured item k x es = refl
delegated-page pool n Unmeasured item k x es = refl
delegated-page pool n Unknown item k x es = refl

-- an act of pages has the entries of its first page, and those of an act of the others
page-by-page : (pool n : ℕ) (content : PageContent) (item k x count : ℕ) (acts : List Act)
    → act_entries pool n (Some (content, item)) k (act.Pages x (suc count) ∷ acts) ≡ page-first pool n content item k x (act.Pages (x + 4096) count ∷ acts)
unfolding act_entries entries_of_pages granules page-first
page-by-page pool n content item k x count acts =
    let others : List Entry = entries_of_pages pool (n + 1) content item (k + 1) (granules count (x + 4096)) in
    let e : n + suc (delegated others) ≡ n + 1 + delegated others = omega arith in
    let f : k + suc count ≡ k + 1 + count = omega arith in
    rw (delegated-page pool n content item k x others, e, f) refl

page-alone : (pool n : ℕ) (content : PageContent) (item k x : ℕ) (acts : List Act)
    → act_entries pool n (Some (content, item)) k (act.Pages x 1 ∷ acts) ≡ page-first pool n content item k x acts
unfolding act_entries entries_of_pages granules page-first
page-alone pool n content item k x acts = rw (delegated-page pool n content item k x []) refl

page-put : (pool n : ℕ) (content : PageContent) (item k x : ℕ) (acts : List Act)
    → act_entries pool n (Some (content, item)) k (put_page x acts) ≡ page-first pool n content item k x acts
page-put pool n content item k x [] = page-alone pool n content item k x []
page-put pool n content item k x (act.Table base level ∷ acts) = page-alone pool n content item k x (act.Table base level ∷ acts)
page-put pool n content item k x (act.Run base top level ∷ acts) = page-alone pool n content item k x (act.Run base top level ∷ acts)
page-put pool n content item k x (act.Pages base count ∷ acts) = elim (cases_Bool (eqb base (x + 4096) && eqb (base / span 3) (x / span 3))) [
  | inl t ↦ rw t (let e : base ≡ x + 4096 = grind (arith, nat_tests) in rw e (page-by-page pool n content item k x count acts))
  | inr f ↦ rw f (page-alone pool n content item k x (act.Pages base count ∷ acts))
]

pub acts-of-pages : (pool start : ℕ) (content : PageContent) (item : ℕ) (xs : List ℕ) (k n : ℕ) (ts : List Table)
    → act_entries pool n (Some (content, item)) k (page_acts start ts xs) ≡ page_entries pool n start ts content item k xs
unfolding act_entries page_acts page_entries page-first
acts-of-pages pool start content item [] k n ts = refl
acts-of-pages pool start content item (x ∷ xs) k n ts =
    let new : List Table = missing start ts 3 x in
    let rest : List Act = page_acts start (ts ++ new) xs in
    tables-first pool (Some (content, item)) k new n (put_page x rest)
    ∙ ap (λ (es : List Entry). table_entries pool n new ++ es)
    (page-put pool (n + length new) content item k x rest
    ∙ ap (λ (es : List Entry). Whole (Delegate (granule pool (n + length new))) ∷ page_entry content (granule pool (n + length new)) x item k ∷ es)
    (acts-of-pages pool start content item xs (k + 1) (n + length new + 1) (ts ++ new)))

-- ---- plans with the same tables

pub runs-alike : (pool start : ℕ) (rs : List Run) (n : ℕ) (ts us : List Table) → SameTables ts us → run_entries pool n start ts rs ≡ run_entries pool n start us rs
unfolding run_entries
runs-alike pool start [] n ts us alike = refl
runs-alike pool start (r ∷ rs) n ts us alike =
    let new : List Table = missing start us r.level r.base in
    rw (missing-alike start r.level r.base ts us alike)
    (ap (λ (es : List Entry). table_entries pool n new ++ (Whole (InitRipas r.base r.top) ∷ es)) (runs-alike pool start rs (n + length new) (ts ++ new) (us ++ new) (append-alike ts us new alike)))

pub pages-alike : (pool start : ℕ) (content : PageContent) (item : ℕ) (xs : List ℕ) (k n : ℕ) (ts us : List Table) → SameTables ts us
    → page_entries pool n start ts content item k xs ≡ page_entries pool n start us content item k xs
unfolding page_entries
pages-alike pool start content item [] k n ts us alike = refl
pages-alike pool start content item (x ∷ xs) k n ts us alike =
    let new : List Table = missing start us 3 x in
    rw (missing-alike start 3 x ts us alike)
    (ap (λ (es : List Entry). table_entries pool n new
    ++ (Whole (Delegate (granule pool (n + length new))) ∷ page_entry content (granule pool (n + length new)) x item k ∷ es))
    (pages-alike pool start content item xs (k + 1) (n + length new + 1) (ts ++ new) (us ++ new) (append-alike ts us new alike)))
