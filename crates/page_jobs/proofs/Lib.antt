-- To prove: a page's bytes are those of its item, a table has each page once, in the slot of its key, and digests that
-- are put in it are those of their pages.
-- Bytes: what is lent of an item, over zeros, is the page
pub mod BytesOfPages
-- a page that nothing is lent of is all zeros, whose digests are known
pub mod DigestsOfZeros
-- Keys: their order is total, and keys that are equal in it are one
pub mod OrderOfKeys
-- so a binary search finds the slot of a key
pub mod SearchByKey
-- keys that rise are in order, each once, and are the only such list of these keys
pub mod RisingKeys
-- where keys rise, the slot of an item's next page is the next slot
pub mod SlotOfNextPage
-- A table is one still after a digest more, where the digest is its page's own.
pub mod OneMoreDigest
-- Ranges of pages: in the order of the items' ends, the pages that are fresh in each are all pages, each once
pub mod FreshPagesOfItems
-- Digests of messages that are hashed side by side are those of the pages in their places.
pub mod PagesSideBySide
