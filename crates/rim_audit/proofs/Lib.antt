-- To prove: the audits, listings and traces are the definitions'.
-- Each page that a list creates is in its launch's item
pub mod ListedPages
-- pages that are hashed side by side have their own digests
pub mod GroupsOfPages
-- a monitor takes each command in its turn, so only want of memory stops it
pub mod MonitorFollows
-- so the replay of a listing says yes
pub mod ListingsConfirmed
-- a copy of one serves each launch that begins with the commands that it was given
pub mod CopiesOfMonitors
-- Traces: the lines of a launch's commands show what a monitor holds, and the last one the launch's measurement
pub mod LinesOfTraces
