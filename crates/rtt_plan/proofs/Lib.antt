-- To prove: `ripas_runs` and `data_pages` plan the acts of the definitions, with the largest blocks and all tables that
-- these need, and, as laws, a monitor can take these acts one after another.
-- Entries of a region: rounding to blocks
pub mod RoundingToBlocks
-- so the block of an address is the largest that fits in the region
pub mod LargestBlocks
-- from a block's first page the entries go on at its end
pub mod JumpToBlockEnd
-- so a region's entries are those from its base on, each from the end of the one before it
pub mod EntryByEntry
-- Runs: a run grows by entries of its level and table, and then is closed
pub mod GrowingRuns
-- its end can be computed, since the entries of one table whose blocks end in the region have one level
pub mod EndOfRun
-- and so its number of entries
pub mod EntriesOfRuns
-- so runs follow one another from base to end, and their blocks are the entries
pub mod RunsCoverRegion
-- Tables: with those that a block needs, tables stay formed and the walk ends at the block's level
pub mod WithMissingTables
-- each table that is missing can be made after those above it
pub mod MissingTablesInTurn
-- so runs can be set, and pages can get data, one after another
pub mod RunsAndPagesInTurn
-- each plan keeps its tables formed and used
pub mod PlansStayFormed
-- plans that agree go on alike
pub mod PlansGoOnAlike
-- The code: it adds the missing tables one at a time
pub mod MissingTablesAdded
-- and takes them back, the last first, where memory is refused
pub mod TablesTakenBack
-- acts of runs and of pages are added step by step
pub mod ActsStepByStep
-- pages of one table are one group, for which no table is missing after its first page
pub mod GroupsOfPages
-- the acts have these runs and pages, beside tables
pub mod AmongActs
-- a call that is planned passed its checks
pub mod AcceptedCalls
-- whether all pages are RAM is asked range by range
pub mod AllPagesAreRam
-- pages of data are kept as ranges
pub mod DataPagesAsRanges
-- which stay in order with one more that meets none
pub mod OneMoreRange
