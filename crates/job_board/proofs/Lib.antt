-- The board: its history goes on by each event, and has room for it
pub mod HistoryGoesOn
-- each event keeps what a board keeps: filled slots, values of launches
pub mod EventsKeepBoards
-- each worker's row is on the board, unless it is with the launch that the worker holds
pub mod RowsOfWorkers
-- a new board has all that these files keep
pub mod NewBoards
-- and where all jobs are done, its values are those of the plans
pub mod FinishedBoards
-- A run's own pages: the pages of a link have slots in a row
pub mod SlotsInARow
-- stretches of slots, in the order of pages, make groups
pub mod GroupsOfStretches
-- so each launch needs exactly the pages of its own plan
pub mod NeedsOfOwnPages
