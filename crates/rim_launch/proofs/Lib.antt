-- To prove: `Launch::new` takes steps that name each region, item and REC once, and the default steps are such.
-- Steps that are given: each number that one names is noted, and at the end all are noted where each was named once
pub mod NamedNumbers
-- Default steps: they name each once, since each item has one role.
pub mod DefaultStepsComplete
-- A configuration is decided by its values, so one that is read is the one that is defined.
pub mod SameConfigs
