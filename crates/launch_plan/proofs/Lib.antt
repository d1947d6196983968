-- To prove: a launch that has a list can be read as a plan, which has the launch's keys and parts.
-- The key at a place of a plan is found link by link
pub mod KeysByPlace
-- so a chain goes on from link to link, with the digests that each link's keys take
pub mod LinkByLink
-- Reading a launch: the links of its steps fit, and have few keys
pub mod LinksFit
-- the pages of these links are the first ones of their items
pub mod LinksBeginItems
-- Reading again: a launch that has a list can be read, with links that fit and not too many pages,
pub mod ListedCanBeRead
-- and its links have the launch's keys and parts.
pub mod KeysAndPartsOfLinks
-- Rows of digests are filled key by key and link by link.
pub mod RowsLinkByLink
