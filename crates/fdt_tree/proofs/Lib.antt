-- Memory and faults: what is known of an error that may be a refusal of memory.
pub mod Faults
-- Reading is spelling. A structure block is scanned as it is spelled:
-- the tokens of a tree may be where they are, and tokens that may be where they are spell one legal root
pub mod AcceptedTokens
pub mod TokensOfOneTree
-- what is spelled is scanned
pub mod ScanOfSpelled
-- a token that is read is spelled, and so is all that is scanned
pub mod SpellingOfScan
pub mod SpellingOfToken
-- so the tokens that are scanned are those that are spelled
pub mod ScanIsSpelling
-- the reservations are found where they are spelled, and nowhere else
pub mod ReservationsAreSpelled
-- so the parts that are read are those that are spelled
pub mod ReadIsSpelled
-- bytes that are not refused spell a tree, which is the one that `tree_at` names
pub mod UnrefusedIsSpelled
pub mod TreeAtIsSpelled
-- a scan fails with the fault of the first token that has one
pub mod FirstFaultOfScan
-- The reader does as the definitions do:
-- a loop that reads into a list; one that reads tokens
pub mod LoopReads
pub mod ScanLoop
-- each token is added to the open nodes; at END they hold the root
pub mod OpenNodes
pub mod RootAtEnd
-- names are found in the strings block by its runs of characters
pub mod NamesInStrings
-- Looking up, and edits: of a node, of a tree, of its memory.
pub mod NameLookup
pub mod NodeEdits
pub mod TreeEdits
pub mod MemoryEdits
-- What is written is spelled:
-- the table of names holds each name once
pub mod NameTables
-- tokens are written one after another
pub mod WrittenTokens
-- the strings and the structure block that are written spell the tree
pub mod WrittenBlocksAreSpelled
-- so the file spells it, whatever follows
pub mod WrittenFileIsSpelled
