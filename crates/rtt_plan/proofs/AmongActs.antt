-- What is among the acts of runs and of pages, beside tables.
use Rattle.std.proofs.Common.{inl, inr, ◌≡◌, ℕ, ◌+◌, ◌/◌, ◌∙◌, refl, ap, arith, ◌&&◌, eqb, List, [], ◌∷◌, ◌++◌, map}
use Rattle.std.proofs.lemmas.Bool.{cases_Bool}
use Rattle.std.proofs.lemmas.Bool.Decides.{nat_tests}
use Rattle.rmm_model.specs.Blocks.{granules, span}
use Rattle.rmm_model.specs.declared.table.Table.{Table}
use Rattle.rtt_plan.specs.declared.act.Act.{Act}
use Rattle.rtt_plan.specs.declared.act.Act.TheVariants as act
use Rattle.rtt_plan.specs.declared.run.Run.{Run}
use Rattle.rtt_plan.specs.Among.{pages_among, runs_among}
use Rattle.rtt_plan.specs.Missing.{page_acts, put_page, run_acts, table_act, missing}

-- tables are neither
runs-tables : (ts : List Table) (rest : List Act) → runs_among (map table_act ts ++ rest) ≡ runs_among rest
unfolding runs_among
runs-tables [] rest = refl
runs-tables (t ∷ ts) rest = runs-tables ts rest

pages-tables : (ts : List Table) (rest : List Act) → pages_among (map table_act ts ++ rest) ≡ pages_among rest
unfolding pages_among
pages-tables [] rest = refl
pages-tables (t ∷ ts) rest = pages-tables ts rest

runs-of_runs : (start : ℕ) (runs : List Run) (ts : List Table) → runs_among (run_acts start ts runs) ≡ runs
unfolding runs_among run_acts
runs-of_runs start [] ts = refl
runs-of_runs start (r ∷ rs) ts =
    let new : List Table = missing start ts r.level r.base in
    runs-tables new (act.Run r.base r.top r.level ∷ run_acts start (ts ++ new) rs) ∙ ap (λ others. r ∷ others) (runs-of_runs start rs (ts ++ new))

pages-of_runs : (start : ℕ) (runs : List Run) (ts : List Table) → pages_among (run_acts start ts runs) ≡ []
unfolding pages_among run_acts
pages-of_runs start [] ts = refl
pages-of_runs start (r ∷ rs) ts =
    let new : List Table = missing start ts r.level r.base in
    pages-tables new (act.Run r.base r.top r.level ∷ run_acts start (ts ++ new) rs) ∙ pages-of_runs start rs (ts ++ new)

pages-put : (x : ℕ) (acts : List Act) → pages_among (put_page x acts) ≡ x ∷ pages_among acts
unfolding pages_among granules
pages-put x [] = refl
pages-put x (act.Table base level ∷ acts) = refl
pages-put x (act.Run base top level ∷ acts) = refl
pages-put x (act.Pages base count ∷ acts) = elim (cases_Bool (eqb base (x + 4096) && eqb (base / span 3) (x / span 3))) [
  | inl t ↦ rw t (let e : base ≡ x + 4096 = grind (arith, nat_tests) in rw e refl)
  | inr f ↦ rw f refl
]

runs-put : (x : ℕ) (acts : List Act) → runs_among (put_page x acts) ≡ runs_among acts
unfolding runs_among
runs-put x [] = refl
runs-put x (act.Table base level ∷ acts) = refl
runs-put x (act.Run base top level ∷ acts) = refl
runs-put x (act.Pages base count ∷ acts) = elim (cases_Bool (eqb base (x + 4096) && eqb (base / span 3) (x / span 3))) [
  | inl t ↦ rw t refl
  | inr f ↦ rw f refl
]

pages-of_pages : (start : ℕ) (pages : List ℕ) (ts : List Table) → pages_among (page_acts start ts pages) ≡ pages
unfolding pages_among page_acts
pages-of_pages start [] ts = refl
pages-of_pages start (x ∷ xs) ts =
    let new : List Table = missing start ts 3 x in
    let rest : List Act = page_acts start (ts ++ new) xs in
    pages-tables new (put_page x rest) ∙ pages-put x rest ∙ ap (λ others. x ∷ others) (pages-of_pages start xs (ts ++ new))

runs-of_pages : (start : ℕ) (pages : List ℕ) (ts : List Table) → runs_among (page_acts start ts pages) ≡ []
unfolding runs_among page_acts
runs-of_pages start [] ts = refl
runs-of_pages start (x ∷ xs) ts =
    let new : List Table = missing start ts 3 x in
    let rest : List Act = page_acts start (ts ++ new) xs in
    runs-tables new (put_page x rest) ∙ runs-put x rest ∙ runs-of_pages start xs (ts ++ new)

pub among-runs : (start : ℕ) (runs : List Run) (ts : List Table) → (runs_among (run_acts start ts runs) ≡ runs) × (pages_among (run_acts start ts runs) ≡ [])
among-runs start runs ts = (runs-of_runs start runs ts, pages-of_runs start runs ts)

pub among-pages : (start : ℕ) (pages : List ℕ) (ts : List Table) → (pages_among (page_acts start ts pages) ≡ pages) × (runs_among (page_acts start ts pages) ≡ [])
among-pages start pages ts = (pages-of_pages start pages ts, runs-of_pages start pages ts)
