-- How many granules some entries take.
use Rattle.std.proofs.Common.{inl, inr, ◌≡◌, ℕ, zero, suc, ◌+◌, refl, arith, List, [], ◌∷◌, ◌++◌, length}
use Rattle.std.proofs.lemmas.Bool.{cases_Bool}
use Rattle.rmm_model.specs.Blocks.{granules}
use Rattle.rmm_model.specs.declared.table.Table.{Table}
use Rattle.list_model.specs.declared.content.PageContent.{PageContent}
use Rattle.list_model.specs.declared.content.PageContent.TheVariants.{Measured, Unmeasured, Unknown}
use Rattle.list_model.specs.Entries.{Entry, delegate_all, delegated, delegates, page_entry, table_entries}

pub count-append : (es fs : List Entry) → delegated (es ++ fs) ≡ delegated es + delegated fs
count-append [] fs = omega arith
count-append (e ∷ es) fs =
    let i : delegated (es ++ fs) ≡ delegated es + delegated fs = count-append es fs in
    elim (cases_Bool (delegates e)) [
      | inl h ↦ rw h (omega arith)
      | inr h ↦ rw h i
    ]

pub count-tables : (pool i : ℕ) (ts : List Table) → delegated (table_entries pool i ts) ≡ length ts
unfolding table_entries
count-tables pool i [] = refl
count-tables pool i (t ∷ ts) = let h : delegated (table_entries pool (i + 1) ts) ≡ length ts = count-tables pool (i + 1) ts in omega arith

pub count-all : (n x : ℕ) → delegated (delegate_all (granules n x)) ≡ n
unfolding granules
count-all zero x = refl
count-all (suc n) x = let h : delegated (delegate_all (granules n (x + 4096))) ≡ n = count-all n (x + 4096) in omega arith

pub count-page : (content : PageContent) (g x item k : ℕ) (rest : List Entry) → delegated (page_entry content g x item k ∷ rest) ≡ delegated rest
count-page Measured g x item k rest = refl
count-page Unmeasured g x item k rest = refl
count-page Unknown g x item k rest = refl
