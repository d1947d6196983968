-- Lists of commands in which the contents of measured pages are open: an entry names the page, and its content is
-- filled in afterwards. The order of tables, granules and commands is this project's choice; that a granule is
-- delegated before a command takes it, and that a table is made below one that was made before, is DEN0137's
-- (RMI_GRANULE_DELEGATE, RMI_RTT_CREATE).
use Rattle.std.specs.Prelude.{ℕ, ◌+◌, ◌*◌, Bool, true, false, List, [], ◌∷◌, ◌++◌, map, length, Option, Some, None}
use Rattle.std.specs.List.{filter}
use Rattle.rim_desc.specs.declared.command.Command.{Command}
use Rattle.rim_desc.specs.declared.command.Command.TheVariants.{Delegate, RealmCreate, RttCreate, InitRipas, DataCreate, DataCreateUnknown, RecCreate}
use Rattle.rim_desc.specs.declared.measurement.Measurement.{Measurement}
use Rattle.rim_desc.specs.declared.realm.RealmParams.{RealmParams}
use Rattle.rim_desc.specs.Rec.{RecData}
use Rattle.rmm_model.specs.Blocks.{granules}
use Rattle.rmm_model.specs.declared.table.Table.{Table}
use Rattle.rtt_plan.specs.Missing.{missing}
use Rattle.rtt_plan.specs.Planned.{Planned}
use Rattle.rtt_plan.specs.Runs.{runs_of}
use Rattle.rtt_plan.specs.declared.run.Run.{Run}
use Rattle.list_model.specs.declared.content.PageContent.{PageContent}
use Rattle.list_model.specs.declared.content.PageContent.TheVariants.{Measured, Unmeasured, Unknown}
use Rattle.rim_desc.specs.declared.page.TheConstants.{PAGE_SIZE}

-- the measurement of each page of each item, by the item's number and the page's
abbrev pub Contents : Type 0
Contents = ℕ → ℕ → Measurement

pub data Entry : Type 0 where
  -- a command of which nothing is open
  Whole : Command → Entry
  -- a page of a measured item: its granule, its IPA, the item's number and the page's
  Page : ℕ → ℕ → ℕ → ℕ → Entry

-- the command of an entry, with the contents of pages filled in
abbrev pub command_of : Contents → Entry → Command
command_of contents (Whole c) = c
command_of contents (Page granule ipa item page) = DataCreate granule ipa (Some (contents item page))

abbrev pub commands_of : Contents → List Entry → List Command
commands_of contents entries = map (command_of contents) entries

-- item and page, where an entry creates a measured page
abbrev pub page_of : Entry → Option (ℕ × ℕ)
page_of (Whole c) = None
page_of (Page granule ipa item page) = Some (item, page)

-- ---- granules

-- granule n of the pool that begins at an address
abbrev pub granule : ℕ → ℕ → ℕ
granule pool n = pool + PAGE_SIZE * n

abbrev pub delegates : Entry → Bool
delegates (Whole (Delegate granule)) = true
delegates _ = false

-- how many granules some entries take from the pool: each is delegated once
abbrev pub delegated : List Entry → ℕ
delegated entries = length (filter delegates entries)

abbrev pub delegate_all : List ℕ → List Entry
delegate_all gs = map (λ g. Whole (Delegate g)) gs

-- ---- the entries of each step; n is the number of the next granule of the pool

-- the start tables, the realm descriptor after them, and the realm
abbrev pub realm_entries : ℕ → RealmParams → List Entry
realm_entries pool params = delegate_all (granules (params.rtt_num_start + 1) pool)
    ++ (Whole (RealmCreate (granule pool params.rtt_num_start) params) ∷ [])

-- some tables, one after another
unfoldable pub table_entries : ℕ → ℕ → List Table → List Entry
table_entries pool n [] = []
table_entries pool n (t ∷ ts) =
    Whole (Delegate (granule pool n)) ∷ Whole (RttCreate (granule pool n) t.base t.level) ∷ table_entries pool (n + 1) ts

-- some runs of a region, each after the tables that its first block needs and that were not made yet
unfoldable pub run_entries : ℕ → ℕ → ℕ → List Table → List Run → List Entry
run_entries pool n start ts [] = []
run_entries pool n start ts (r ∷ rs) =
    let new = missing start ts r.level r.base in
    table_entries pool n new ++ (Whole (InitRipas r.base r.top) ∷ run_entries pool (n + length new) start (ts ++ new) rs)

-- a page of an item, in a granule
abbrev pub page_entry : PageContent → ℕ → ℕ → ℕ → ℕ → Entry
page_entry Measured granule ipa item page = Page granule ipa item page
page_entry Unmeasured granule ipa item page = Whole (DataCreate granule ipa None)
page_entry Unknown granule ipa item page = Whole (DataCreateUnknown granule ipa)

-- the pages of an item from its kth on, each after the tables that it needs and that were not made yet
unfoldable pub page_entries : ℕ → ℕ → ℕ → List Table → PageContent → ℕ → ℕ → List ℕ → List Entry
page_entries pool n start ts content item k [] = []
page_entries pool n start ts content item k (x ∷ xs) =
    let new = missing start ts 3 x in
    let g = granule pool (n + length new) in
    table_entries pool n new
    ++ (Whole (Delegate g) ∷ page_entry content g x item k ∷ page_entries pool (n + length new + 1) start (ts ++ new) content item (k + 1) xs)

-- the entries of a region, and of an item's pages, after what was planned so far, with the nth granule of the pool as the next
abbrev pub region_entries : ℕ → ℕ → Planned → ℕ → ℕ → List Entry
region_entries pool n p base end = run_entries pool n p.space.start p.space.tables (runs_of base end p.least_level)

abbrev pub item_entries : ℕ → ℕ → Planned → PageContent → ℕ → ℕ → ℕ → List Entry
item_entries pool n p content item base count = page_entries pool n p.space.start p.space.tables content item 0 (granules count base)

-- the granules of a REC: its own, and the auxiliary granules after it
abbrev pub rec_granules : ℕ → ℕ → ℕ → List ℕ
rec_granules pool n num_aux = granules (num_aux + 1) (granule pool n)

-- a REC, whose parameters name its auxiliary granules
abbrev pub rec_entries : ℕ → ℕ → ℕ → RecData → List Entry
rec_entries pool n num_aux r = delegate_all (rec_granules pool n num_aux) ++ (Whole (RecCreate (granule pool n) r) ∷ [])
