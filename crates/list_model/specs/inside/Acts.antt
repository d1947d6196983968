-- The entries of acts: what a loop over the acts of a plan writes. Acts of pages are an item's: where no item is listed,
-- they have no entries. This project's choice.
use Rattle.std.specs.Prelude.{ℕ, ◌+◌, List, [], ◌∷◌, ◌++◌, Option, Some, None}
use Rattle.rim_desc.specs.declared.command.Command.TheVariants.{Delegate, RttCreate, InitRipas}
use Rattle.rmm_model.specs.Blocks.{granules}
use Rattle.rtt_plan.specs.declared.act.Act.{Act}
use Rattle.rtt_plan.specs.declared.act.Act.TheVariants as act
use Rattle.list_model.specs.declared.content.PageContent.{PageContent}
use Rattle.list_model.specs.Entries.{Entry, Whole, delegated, granule, page_entry}

-- an item: what is known of its content, and its number
abbrev pub ItemOf : Type 0
ItemOf = Option (PageContent × ℕ)

-- pages of an item that need no table, from its kth on
unfoldable pub entries_of_pages : ℕ → ℕ → PageContent → ℕ → ℕ → List ℕ → List Entry
entries_of_pages pool n content item k [] = []
entries_of_pages pool n content item k (x ∷ xs) =
    Whole (Delegate (granule pool n)) ∷ page_entry content (granule pool n) x item k ∷ entries_of_pages pool (n + 1) content item (k + 1) xs

-- the entries of one act, from granule n and page k of the item on
abbrev pub entries_of_act : ℕ → ℕ → ItemOf → ℕ → Act → List Entry
entries_of_act pool n item k (act.Table base level) = Whole (Delegate (granule pool n)) ∷ Whole (RttCreate (granule pool n) base level) ∷ []
entries_of_act pool n item k (act.Run base top level) = Whole (InitRipas base top) ∷ []
entries_of_act pool n (Some item) k (act.Pages base count) = entries_of_pages pool n item.0 item.1 k (granules count base)
entries_of_act pool n None k (act.Pages base count) = []

-- how many pages of the item it creates
abbrev pub pages_in : ItemOf → Act → ℕ
pages_in (Some item) (act.Pages base count) = count
pages_in item a = 0

-- the entries of some acts
unfoldable pub act_entries : ℕ → ℕ → ItemOf → ℕ → List Act → List Entry
act_entries pool n item k [] = []
act_entries pool n item k (a ∷ acts) =
    let here = entries_of_act pool n item k a in here ++ act_entries pool (n + delegated here) item (k + pages_in item a) acts
