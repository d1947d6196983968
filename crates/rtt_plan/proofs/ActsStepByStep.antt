-- The acts of runs and of pages, one step at a time.
use Rattle.std.proofs.Common.{inl, inr, ◌≡◌, ℕ, ◌+◌, ◌/◌, ◌∙◌, sym, refl, ap, ◌&&◌, eqb, List, [], ◌∷◌, ◌++◌, map, append_assoc}
use Rattle.std.proofs.lemmas.List.{append-nil}
use Rattle.std.proofs.lemmas.Bool.{cases_Bool}
use Rattle.rmm_model.specs.Blocks.{span}
use Rattle.rmm_model.specs.Space.{SameTables}
use Rattle.rmm_model.specs.declared.table.Table.{Table}
use Rattle.rtt_plan.specs.declared.act.Act.{Act}
use Rattle.rtt_plan.specs.declared.act.Act.TheVariants as act
use Rattle.rtt_plan.specs.declared.run.Run.{Run}
use Rattle.rtt_plan.specs.Missing.{page_acts, page_tables, put_page, run_acts, run_tables, table_act, tables_after, missing}
use Rattle.rtt_plan.proofs.PlansGoOnAlike.{page_acts-alike, page_tables-alike, run_acts-alike, run_tables-alike}

-- ---- the tables among acts

pub tables-made : (ts new : List Table) (rest : List Act) → tables_after ts (map table_act new ++ rest) ≡ tables_after (ts ++ new) rest
unfolding tables_after
tables-made ts [] rest = ap (λ us. tables_after us rest) (sym (append-nil ts))
tables-made ts (t ∷ new) rest = tables-made (ts ++ t ∷ []) new rest ∙ ap (λ us. tables_after us rest) (append_assoc ts (t ∷ []) new)

pub run-tables : (start : ℕ) (runs : List Run) (ts : List Table) → tables_after ts (run_acts start ts runs) ≡ run_tables start ts runs
unfolding tables_after run_acts run_tables
run-tables start [] ts = refl
run-tables start (r ∷ rs) ts =
    tables-made ts (missing start ts r.level r.base) (act.Run r.base r.top r.level ∷ run_acts start (ts ++ missing start ts r.level r.base) rs)
    ∙ run-tables start rs (ts ++ missing start ts r.level r.base)

tables-put : (ts : List Table) (x : ℕ) (acts : List Act) → tables_after ts (put_page x acts) ≡ tables_after ts acts
unfolding tables_after
tables-put ts x [] = refl
tables-put ts x (act.Table base level ∷ acts) = refl
tables-put ts x (act.Run base top level ∷ acts) = refl
tables-put ts x (act.Pages base count ∷ acts) = elim (cases_Bool (eqb base (x + 4096) && eqb (base / span 3) (x / span 3))) [
  | inl t ↦ rw t refl
  | inr f ↦ rw f refl
]

pub page-tables : (start : ℕ) (pages : List ℕ) (ts : List Table) → tables_after ts (page_acts start ts pages) ≡ page_tables start ts pages
unfolding tables_after page_acts page_tables
page-tables start [] ts = refl
page-tables start (x ∷ xs) ts =
    let new : List Table = missing start ts 3 x in
    let rest : List Act = page_acts start (ts ++ new) xs in
    tables-made ts new (put_page x rest) ∙ tables-put (ts ++ new) x rest ∙ page-tables start xs (ts ++ new)

-- ---- how far acts have come

-- The acts so far and those that are left are the acts that were said before and the whole; and the tables that are
-- left to come are those of the whole.
pub record IsPlanning (said whole acts rest : List Act) (all left : List Table) : Type 0 where
  pub said_so_far : acts ++ rest ≡ said ++ whole
  pub made_so_far : SameTables left all

pub planning-start : (said whole : List Act) (all : List Table) → IsPlanning said whole said whole all all
planning-start said whole all = record { said_so_far = refl; made_so_far = λ level base. refl }

-- one run more: `now` are the tables with those that it needs
pub planning-run : (start : ℕ) (said whole acts : List Act) (all tables now : List Table) (runs : List Run) (r : Run) (rs : List Run)
    → runs ≡ r ∷ rs → SameTables now (tables ++ missing start tables r.level r.base)
    → IsPlanning said whole acts (run_acts start tables runs) all (run_tables start tables runs)
    → IsPlanning said whole ((acts ++ map table_act (missing start tables r.level r.base)) ++ act.Run r.base r.top r.level ∷ [])
    (run_acts start now rs) all (run_tables start now rs)
unfolding run_acts run_tables
planning-run start said whole acts all tables now runs r rs parts alike planning =
    let new : List Table = missing start tables r.level r.base in
    let one : Act = act.Run r.base r.top r.level in
    let rest : List Act = run_acts start (tables ++ new) rs in
    record {
      said_so_far = ap (λ more. ((acts ++ map table_act new) ++ one ∷ []) ++ more) (run_acts-alike start rs now (tables ++ new) alike)
          ∙ append_assoc (acts ++ map table_act new) (one ∷ []) rest ∙ append_assoc acts (map table_act new) (one ∷ rest)
          ∙ ap (λ more. acts ++ more) (sym (ap (run_acts start tables) parts)) ∙ planning.said_so_far;
      made_so_far = λ level base. run_tables-alike start rs now (tables ++ new) alike level base
          ∙ (let h = planning.made_so_far level base in rw parts at h);
    }

-- one group of pages more: `now` are the tables with those that it needs
pub planning-group : (start : ℕ) (said whole acts : List Act) (all tables now : List Table) (pages left : List ℕ) (x n : ℕ)
    → page_acts start tables pages ≡ map table_act (missing start tables 3 x) ++ (act.Pages x n ∷ page_acts start (tables ++ missing start tables 3 x) left)
    → page_tables start tables pages ≡ page_tables start (tables ++ missing start tables 3 x) left
    → SameTables now (tables ++ missing start tables 3 x)
    → IsPlanning said whole acts (page_acts start tables pages) all (page_tables start tables pages)
    → IsPlanning said whole ((acts ++ map table_act (missing start tables 3 x)) ++ act.Pages x n ∷ [])
    (page_acts start now left) all (page_tables start now left)
planning-group start said whole acts all tables now pages left x n parts made_parts alike planning =
    let new : List Table = missing start tables 3 x in
    let one : Act = act.Pages x n in
    let rest : List Act = page_acts start (tables ++ new) left in
    record {
      said_so_far = ap (λ more. ((acts ++ map table_act new) ++ one ∷ []) ++ more) (page_acts-alike start left now (tables ++ new) alike)
          ∙ append_assoc (acts ++ map table_act new) (one ∷ []) rest ∙ append_assoc acts (map table_act new) (one ∷ rest)
          ∙ ap (λ more. acts ++ more) (sym parts) ∙ planning.said_so_far;
      made_so_far = λ level base. page_tables-alike start left now (tables ++ new) alike level base
          ∙ (let h = planning.made_so_far level base in rw made_parts at h);
    }

-- nothing is left
pub planning-runs_end : (start : ℕ) (said whole acts : List Act) (all tables : List Table) (runs : List Run) → runs ≡ []
    → IsPlanning said whole acts (run_acts start tables runs) all (run_tables start tables runs) → (acts ≡ said ++ whole) × SameTables tables all
unfolding run_acts run_tables
planning-runs_end start said whole acts all tables runs none planning = (
  sym (append-nil acts) ∙ ap (λ more. acts ++ more) (sym (ap (run_acts start tables) none)) ∙ planning.said_so_far,
  λ level base. let h = planning.made_so_far level base in rw none at h,
)

pub planning-pages_end : (start : ℕ) (said whole acts : List Act) (all tables : List Table) (pages : List ℕ) → pages ≡ []
    → IsPlanning said whole acts (page_acts start tables pages) all (page_tables start tables pages) → (acts ≡ said ++ whole) × SameTables tables all
unfolding page_acts page_tables
planning-pages_end start said whole acts all tables pages none planning = (
  sym (append-nil acts) ∙ ap (λ more. acts ++ more) (sym (ap (page_acts start tables) none)) ∙ planning.said_so_far,
  λ level base. let h = planning.made_so_far level base in rw none at h,
)
