-- To prove: `read_manifest` gives the release that the manifest's definition gives, or the lowest of its faults.
-- How the answer is put together: no document, a fault of tables, a fault of names, or the release
pub mod ReadStepByStep
-- what holds of the values of tables that have no fault
pub mod TablesWithoutFaults
-- the lowest fault is one of those found, and below all
pub mod LowestFault
-- loops that find faults in turn, and keep the lowest of them or all
pub mod FaultsInTurn
-- launches are read in turn, each with its place as its number
pub mod LaunchesNumbered
-- (items are decided by their values)
pub mod SameItem
-- where no fault holds, and only then, what is read fits the type of a launch
pub mod MadeWithoutFaults
-- the steps are those that the texts spell
pub mod StepsAsSpelled
-- so each part of a launch that is read is what its table gives
pub mod ValuesAsGiven
pub mod ReadAsGiven
-- (regions are decided by their addresses)
pub mod SameRegions
-- A search for all faults finds those of tables, or else the one of names.
pub mod FoundFaults
