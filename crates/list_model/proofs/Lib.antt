-- To prove, as laws: a monitor takes the commands that create the realm, make a region RAM, give an item its pages and
-- create a REC, and they lead it from what was planned before to what is planned with them.
-- How commands lead a monitor on, one after another. Then, for one kind of command after another, that they do:
pub mod CommandsLeadOn
-- the tables that a block needs are made,
pub mod TablesMadeInTurn
-- with granules of the pool, which are counted;
pub mod GranulesOfEntries
-- the runs of a region are set, each after its tables;
pub mod RunsSetInTurn
-- the pages of an item are created, each after its tables;
pub mod PagesCreatedInTurn
-- granules side by side are delegated,
pub mod GranulesDelegated
-- so the realm and its RECs can be created of them
pub mod RealmAndRecsCreated
-- by runs and by pages: a whole region and a whole item lead from plan to plan
pub mod RegionsAndItemsLead
-- Last, for code that has a plan's acts: the entries are read off these, and plans with the same tables list alike.
pub mod EntriesOfActs
