-- To prove: what a map shows of a launch is the launch's own.
-- items at their places, one after another, are those of the launch
pub mod RowsInTurn
-- the granules of commands are added command by command, and no content counts
pub mod GranulesInTurn
-- Laws: gaps are all that stretches have not
pub mod GapsAreTheRest
-- the extensions of a launch are those of the links of its plan
pub mod ExtensionsOfLinks
