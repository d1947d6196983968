-- Files are read up to a limit, one after another, and the first that cannot be read is named.
pub mod ReadFileByFile
-- Files that are opened one after another are read at once.
pub mod AtOnce
