-- To prove: a monitor does with each command what the model says, or has no memory and stays as it was.
-- A kind is given to some granules in turn.
pub mod KindsGivenInTurn
-- Tables are where they may be, also after RTT_CREATE.
pub mod OneMoreTable
-- Whether a range has a deeper table is found by a look-up at each of three levels;
pub mod DeeperByLevel
-- such a look-up finds the first table of its level in the range, where the range has one.
pub mod FirstPasses
-- A granule that is taken may be given back.
pub mod GivenBack
-- Lists of granules, one by one: whether one is named twice
pub mod ListsOfGranules
-- INIT_RIPAS measures stretches in turn, and stops at the end of its range
pub mod StretchesBecomeRam
