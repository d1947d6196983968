-- To prove: a remark says its word, and what is known of its texts.
-- What is added to remarks is one that says so.
pub mod AddedRemarks
-- bytes that are shown as they are end no line, so a name or a path stays inside its line
pub mod PlainBytes
-- remarks as JSON are texts alone
pub mod RemarksAsJson
-- and a launch is shown by its name as that is
pub mod PlainNames
