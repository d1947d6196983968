-- To prove, as laws: a walk ends at the deepest table, spaces may be kept in any order or pieces, the measurement is of
-- the parts that commands show, and no granule is taken twice.
-- What a list of checks answers
pub mod AnswersOfChecks
-- tests that answer alike pass the same elements of a list
pub mod TestsThatAgree
-- Walks: sizes of blocks, rounding down, which addresses are in one block;
pub mod BlockArithmetic
-- so a walk ends at the deepest table that covers its address,
pub mod EndsOfWalks
-- which look-ups from the deepest level up find.
pub mod WalksByLookUp
-- Spaces: ranges of RAM meet others exactly where some address is in both
pub mod RangesOfRam
-- what a space has whose tables, ranges or pages are two lists, one after the other
pub mod AppendedSpaces
-- granules side by side, by their numbers: none comes twice
pub mod GranulesInARow
-- a granule that is given a kind has it, and all others keep theirs
pub mod KindsAfterGifts
-- what it has after one more table, range or page, put in its place in the order
pub mod OneMoreInSpace
-- where ranges are in order, the last one that begins before an end says whether any is met
pub mod LastMeets
-- so spaces that are the same answer alike and stay the same, whatever order or pieces they are kept in
pub mod SameSpaces
-- Commands: lists of them one after another
pub mod ListAfterList
-- when each one is taken, and the state after it
pub mod CommandsTaken
-- the measurement is of the parts that commands show
pub mod RimOfShownParts
-- a command takes granules that were not in use, and they stay in use: none is taken twice
pub mod NoGranuleTwice
-- a measurement is extended by stretches one by one
pub mod StretchByStretch
