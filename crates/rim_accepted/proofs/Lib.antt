-- To prove: what a launch comes to is said truly.
-- a launch that is accepted has a place and a list, and one that is refused has no measurement
pub mod AcceptedLaunches
-- the reason that is found is that of its first refusal
pub mod FirstReasons
-- launches are laid out one after another
pub mod OutcomesInTurn
-- the lines of launches, added one after another, are those of the report
pub mod LinesOfLaunches
-- some launch is refused exactly where some outcome is a refusal
pub mod RefusedLaunches
-- an item has no more pages than all items of its launch
pub mod PagesOfItems
-- Laws: what a line says is what a monitor holds
pub mod LinesAreTrue
-- the devicetree that is given out is the one that is measured
pub mod DevicetreeGivenOut
