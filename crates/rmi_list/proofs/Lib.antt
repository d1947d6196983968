-- To prove: `list` makes the list of the definition or gives its refusal, and a monitor follows that list.
-- What a monitor checks: contents have no byte past the digest,
pub mod NoBytePastDigest
-- and the parameters of a launch's realm are good
pub mod ParametersAreTaken
-- what some checks answer, one after another
pub mod CheckAfterCheck
-- so a monitor follows the list of a launch, step by step, by the laws of the steps
pub mod ListIsFollowed
-- The code: a draft grows entry by entry, or is refused
pub mod EntryByEntry
-- so a step of the code makes the listing of the step's definition
pub mod StepsAreListed
-- lists that go on from plans that agree are the same, whatever the order of their tables
pub mod ListsGoOnAlike
-- the begin of a list: start tables, descriptor, realm
pub mod BeginOfList
-- items that have a place are few, with few pages, so they can be listed
pub mod ItemsAreListable
-- so, step by step, the draft is the list of the launch
pub mod ListStepByStep
-- Spans hold entries of many pages in one: each command of the list is one of a span, found by a search in the starts.
pub mod CommandsOfSpans
-- Lists that begin with the same spans begin with the same commands.
pub mod SpansInCommon
