-- To prove: a launch's plan has the launch's keys and parts, and with the digests of its own pages it chains to what a
-- monitor holds after the launch's list of commands.
-- Chaining: a measurement is extended by the parts of one link, block by block and page by page
pub mod ExtendedByParts
-- Prefixes that launches have in common: which values are known, of which launches, and what keeps them
pub mod KnownPrefixes
-- the prefix of no link measures the realm's page alone, and each link more extends it
pub mod PrefixValues
-- Pages go by their keys, so a row has the digests of the launch's own pages: its chain is what a monitor holds
pub mod ChainsOfOwnPages
-- A chain under way takes its parts one by one. A link without parts can be left out, so it takes the link after it.
pub mod PartByPart
