-- To prove: lines say, one after another, what the definitions find wrong with a manifest and with its launches.
-- A manifest is explained by a line for each fault that was found; one that is no document, by one line.
pub mod FaultsAreExplained
-- the loop that writes these lines
pub mod FindingLines
-- and what is before a fault's word in them
pub mod FaultPlaces
-- The loop over the launches of a release, and whether one of them is refused
pub mod LaunchLines
-- in each turn of that loop: nothing is said of a launch that is accepted, and one line of one that is refused, for its reason
pub mod SaidOfLaunches
-- the remarks on launches that were laid out before
pub mod RefusalsInTurn
-- and its pages and its warnings, or that some launch is refused
pub mod FoundOfLaunches
-- Warnings are about launches that are accepted
pub mod WarningLines
-- and a launch that has a name of a manifest is shown by it as it is
pub mod NamesAreShown
-- The numbers of a reason: their hexadecimal digits
pub mod HexadecimalDigits
-- What a check finds as JSON
pub mod LinesAsJson
