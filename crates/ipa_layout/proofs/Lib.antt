-- To prove: a launch is placed as its definition says, or refused for the first reason; and what the laws say.
-- Loops and searches: a test of one number after another
pub mod TestsOfNumbers
-- what a search through a list has found, and what it has not
pub mod FoundInLists
-- so whether all pages of an item are in RAM can be asked region by region
pub mod PagesHeldByRegions
-- Edits of a devicetree: the first one that fails decides, and where none fails they are all made
pub mod EditAfterEdit
-- Extents: each item's file is one of the launch's files,
pub mod FilesOfItems
-- so the extents of all items are found one after another
pub mod ExtentsInTurn
-- The laws: extents that do not meet have no page in common, and each item that is placed has its extent;
pub mod PlacedExtents
-- so a placed launch has its parts, its pages are few and none is of two items
pub mod PlacedLaunchLaws
