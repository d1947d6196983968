-- The links of steps fit, and how many keys they have.
use Rattle.std.proofs.Common.{inl, inr, ◌⊎◌, ◌≡◌, ℕ, suc, ◌+◌, ◌-◌, ◌*◌, ◌/◌, ◌^◌, ◌<◌, ◌≤◌, refl, arith, Bool, true, false, eqb, List, [], ◌∷◌, ◌++◌, length, map, Option, None}
use Rattle.std.specs.Prelude.{Some}
use Rattle.std.specs.List.{All}
use Rattle.std.proofs.lemmas.Bool.{cases_Bool}
use Rattle.std.proofs.lemmas.List.{length-append}
use Rattle.std.proofs.lemmas.List.Elements.{All-cons, All-nil}
use Rattle.std.proofs.lemmas.List.FromFn.{length-map-range_with_len}
use Rattle.rim_desc.specs.declared.command.Command.TheVariants.{Delegate}
use Rattle.rim_desc.specs.declared.measurement.Algo.{Algo}
use Rattle.rmm_model.specs.Blocks.{size}
use Rattle.rmm_model.specs.declared.table.Table.{Table}
use Rattle.rmm_model.proofs.BlockArithmetic.{down-le}
use Rattle.rtt_plan.specs.Following.{AreRuns, IsRun}
use Rattle.rtt_plan.specs.Missing.{missing}
use Rattle.rtt_plan.specs.declared.run.Run.{Run}
use Rattle.ipa_layout.specs.declared.placed.PlacedItem.{PlacedItem}
use Rattle.list_model.specs.declared.content.PageContent.{PageContent}
use Rattle.list_model.specs.declared.content.PageContent.TheVariants.{Measured, Unmeasured, Unknown}
use Rattle.rim_desc.specs.declared.source.Source.{Source}
use Rattle.list_model.specs.Entries.{Entry, Whole, delegated, granule, page_entries, page_entry, table_entries}
use Rattle.list_model.proofs.GranulesOfEntries.{count-append}
use Rattle.rmi_list.specs.Measured.{page_base}
use Rattle.launch_plan.specs.Links.{key_after, keys_in, keys_of}
use Rattle.launch_plan.specs.Keys.{key_at}
use Rattle.launch_plan.specs.declared.link.Link.{Link}
use Rattle.launch_plan.specs.Fitting.{IsFitting}
use Rattle.launch_plan.specs.inside.Steps.{item_links, pages_link, run_link, source_links}

-- ---- runs

pub runs-fit : (least_level x end : ℕ) (rs : List Run) → AreRuns least_level x end rs → end ≤ 2 ^ 47 → All IsFitting (map run_link rs)
unfolding AreRuns
runs-fit least_level x end [] runs small = All-nil IsFitting
runs-fit least_level x end (r ∷ rs) runs small =
    let run : IsRun least_level r = runs.0 in
    let some : r.base < r.top = run.some in
    let le : r.top ≤ end = runs.2 in
    let whole : (r.top - r.base) / size r.level * size r.level ≤ r.top - r.base = down-le (size r.level) (r.top - r.base) in
    All-cons IsFitting (run_link r) (map run_link rs) (omega arith) (runs-fit least_level r.top end rs (runs.3) small)

pub runs-keyless : (rs : List Run) → keys_of (map run_link rs) ≡ []
runs-keyless [] = refl
runs-keyless (r ∷ rs) = runs-keyless rs

-- ---- pages

-- each page takes a granule
pub pages-taken : (xs : List ℕ) (pool n start : ℕ) (ts : List Table) (content : PageContent) (item k : ℕ)
    → length xs ≤ delegated (page_entries pool n start ts content item k xs)
unfolding page_entries
pages-taken [] pool n start ts content item k = omega arith
pages-taken (x ∷ xs) pool n start ts content item k =
    let new : List Table = missing start ts 3 x in
    let g : ℕ = granule pool (n + length new) in
    let rest : List Entry = page_entries pool (n + length new + 1) start (ts ++ new) content item (k + 1) xs in
    let more : length xs ≤ delegated rest = pages-taken xs pool (n + length new + 1) start (ts ++ new) content item (k + 1) in
    let one : delegated (Whole (Delegate g) ∷ page_entry content g x item k ∷ rest) ≡ suc (delegated rest) = by_page content g x item k rest in
    let all : delegated (table_entries pool n new ++ (Whole (Delegate g) ∷ page_entry content g x item k ∷ rest))
    ≡ delegated (table_entries pool n new) + delegated (Whole (Delegate g) ∷ page_entry content g x item k ∷ rest) = count-append (table_entries pool n new) _ in
    rw all (omega arith)
  where
    by_page : (content : PageContent) (g x item k : ℕ) (rest : List Entry)
        → delegated (Whole (Delegate g) ∷ page_entry content g x item k ∷ rest) ≡ suc (delegated rest)
    by_page Measured g x item k rest = refl
    by_page Unmeasured g x item k rest = refl
    by_page Unknown g x item k rest = refl

pub item-fits : (algo : Algo) (item : PlacedItem) → page_base item + 4096 * item.pages ≤ 2 ^ 47 → All IsFitting (item_links algo (Some item))
item-fits algo item small = by_pages (cases_Bool (eqb item.pages 0))
  where
    by_measured : (source : Source) (b : Bool) → item.measured ≡ b → IsFitting (pages_link algo item source)
    by_measured source true e = rw e (omega arith, omega arith)
    by_measured source false e = rw e (omega arith)

    by_source : (s : Option Source) → All IsFitting (source_links algo item s)
    by_source None = All-nil IsFitting
    by_source (Some source) = All-cons IsFitting (pages_link algo item source) [] (by_measured source item.measured refl) (All-nil IsFitting)

    by_pages : (eqb item.pages 0 ≡ true) ⊎ (eqb item.pages 0 ≡ false) → All IsFitting (item_links algo (Some item))
    by_pages (inl none) = rw none (All-nil IsFitting)
    by_pages (inr some) = rw some (by_source item.source)

keys-one : (link : Link) → length (keys_of (link ∷ [])) ≡ length (keys_in link)
keys-one link = let size : length (keys_in link ++ []) ≡ length (keys_in link) + 0 = length-append (keys_in link) [] in omega arith

pub item-keys-few : (algo : Algo) (item : PlacedItem) → length (keys_of (item_links algo (Some item))) ≤ item.pages
item-keys-few algo item = by_pages (cases_Bool (eqb item.pages 0))
  where
    by_measured : (source : Source) (b : Bool) → item.measured ≡ b → length (keys_in (pages_link algo item source)) ≤ item.pages
    by_measured source true e = rw e (let count = length-map-range_with_len (key_after (key_at algo source item 0)) 0 item.pages in omega (arith, count))
    by_measured source false e = rw e (omega arith)

    by_source : (s : Option Source) → length (keys_of (source_links algo item s)) ≤ item.pages
    by_source None = omega arith
    by_source (Some source) = rw (keys-one (pages_link algo item source)) (by_measured source item.measured refl)

    by_pages : (eqb item.pages 0 ≡ true) ⊎ (eqb item.pages 0 ≡ false) → length (keys_of (item_links algo (Some item))) ≤ item.pages
    by_pages (inl none) = rw none (omega arith)
    by_pages (inr some) = rw some (by_source item.source)
