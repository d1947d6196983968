-- To prove: the laws of legal lists of events, and that a board in memory takes the same steps as the definitions.
-- One change at a time: how counts over jobs change with one job, or with a worker that is freed;
pub mod CountsOfJobs
-- a put of one job shows in that job alone
pub mod OneJobChanges
-- so what is noted of the workers (who holds what) is right after each change
pub mod NotesOfWorkers
-- Lists of events: what an accepted event says of the state, and what it makes of it
pub mod AcceptedEvents
-- so by induction, in every legal list: one job for a worker, no job put twice, few events, needs that stay
pub mod LegalLists
-- who holds a job is the same by the events and by the state
pub mod HoldersByEvents
-- pages that are done stay done, so a launch that was given stays ready, and none is given early
pub mod ReadyStaysReady
-- where some job is not done and no worker holds one, worker 0 may take one
pub mod NeverStuck
-- where nothing is free that is ready, some worker holds a job
pub mod WaitsForHeld
-- each put has its job's own value, since a row is gathered of pages that are done
pub mod OwnValues
-- The core in memory: what no step changes, and what each step makes of the state
pub mod WhatStepsChange
-- what a core counts, and from where it looks for a free page, is right after each step
pub mod CoreCounts
-- Which launch is ready: a put of a page leaves right what launches wait for
pub mod ReachesAfterPuts
-- a launch is ready exactly where none of its reaches is left
pub mod ReadyByReaches
-- so what launches wait for is right as jobs change
pub mod WaitsAsJobsChange
-- Needs may be kept as groups of pages, each with the launches that need some of it: these are needs too
pub mod NeedsOfGroups
-- needs that are listed make groups of one page each
pub mod GroupsOfListedNeeds
-- launches that wait for nothing are in one line, from which they are given in turn
pub mod LineOfReady
