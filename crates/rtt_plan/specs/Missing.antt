-- The tables that a block needs first. DEN0137, RMI_RTT_CREATE: a table is made below one that was made
-- before; that tables are made just before the block that needs them is this project's choice.
use Rattle.std.specs.Prelude.{ℕ, zero, suc, ◌+◌, ◌-◌, ◌/◌, ◌&&◌, ◌==◌, not, List, [], ◌∷◌, ◌++◌, map, if◌then◌else◌}
use Rattle.std.specs.List.{filter}
use Rattle.rmm_model.specs.Blocks.{down, span}
use Rattle.rmm_model.specs.Space.{made}
use Rattle.rmm_model.specs.declared.table.Table.{Table}
use Rattle.rtt_plan.specs.declared.act.Act.{Act}
use Rattle.rtt_plan.specs.declared.act.Act.TheVariants as act
use Rattle.rtt_plan.specs.declared.run.Run.{Run}
use Rattle.rim_desc.specs.declared.page.TheConstants.{PAGE_SIZE}

-- the tables of the n levels below level j that cover x
unfoldable pub needed : ℕ → ℕ → ℕ → List Table
needed zero j x = []
needed (suc n) j x = record { level = suc j; base = down (span (suc j)) x } ∷ needed n (suc j) x

-- the tables that a block of a level at x needs below the start level and that were not made yet, rising
-- in level
abbrev pub missing : ℕ → List Table → ℕ → ℕ → List Table
missing start ts level x = filter (λ t. not (made ts t.level t.base)) (needed (level - start) start x)

-- the tables after some runs were set, each run after the tables that its first block needs
unfoldable pub run_tables : ℕ → List Table → List Run → List Table
run_tables start ts [] = ts
run_tables start ts (r ∷ rs) = run_tables start (ts ++ missing start ts r.level r.base) rs

-- the tables after some pages got data, each page after the tables that it needs
unfoldable pub page_tables : ℕ → List Table → List ℕ → List Table
page_tables start ts [] = ts
page_tables start ts (x ∷ xs) = page_tables start (ts ++ missing start ts 3 x) xs

-- ---- acts

abbrev pub table_act : Table → Act
table_act t = act.Table t.base t.level

-- the acts that set some runs: before each run the tables that its first block needs
unfoldable pub run_acts : ℕ → List Table → List Run → List Act
run_acts start ts [] = []
run_acts start ts (r ∷ rs) =
    let new = missing start ts r.level r.base in
    map table_act new ++ (act.Run r.base r.top r.level ∷ run_acts start (ts ++ new) rs)

-- a page put in front of acts: it joins pages that begin with the next page, where one level 3 table covers both
abbrev pub put_page : ℕ → List Act → List Act
put_page x [] = act.Pages x 1 ∷ []
put_page x (act.Table base level ∷ acts) = act.Pages x 1 ∷ act.Table base level ∷ acts
put_page x (act.Run base top level ∷ acts) = act.Pages x 1 ∷ act.Run base top level ∷ acts
put_page x (act.Pages base count ∷ acts) =
    if base == x + PAGE_SIZE && base / span 3 == x / span 3 then act.Pages x (suc count) ∷ acts
    else act.Pages x 1 ∷ act.Pages base count ∷ acts

-- the acts that put data at some pages: the longest groups of neighbouring pages in one level 3 table, before each the
-- tables that its pages need
unfoldable pub page_acts : ℕ → List Table → List ℕ → List Act
page_acts start ts [] = []
page_acts start ts (x ∷ xs) =
    let new = missing start ts 3 x in
    map table_act new ++ put_page x (page_acts start (ts ++ new) xs)

-- the tables after some acts
unfoldable pub tables_after : List Table → List Act → List Table
tables_after ts [] = ts
tables_after ts (act.Table base level ∷ acts) = tables_after (ts ++ record { level = level; base = base } ∷ []) acts
tables_after ts (act.Run base top level ∷ acts) = tables_after ts acts
tables_after ts (act.Pages base count ∷ acts) = tables_after ts acts
