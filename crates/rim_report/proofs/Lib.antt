-- To prove: the report is the definitions', however workers share the jobs.
-- Before hashing: each launch that is accepted is read as its plan
pub mod PlansInTurn
-- a table has a slot for each of their different pages, and one thread fills it slot by slot
pub mod FilledSlots
-- THE VALUES: with the digests of that table each launch chains to what a monitor holds after its list of commands,
pub mod ChainsAreRims
-- The length of a report does not depend on measurements, so it is known before hashing.
pub mod LengthOfReport
-- Laws: any legal list of events that does all jobs gives the lines of the report
pub mod LinesOfAnyRun
-- A digest goes into the slot of its own file, and all slots give the digests of all files
pub mod DigestsInSlots
