-- To prove: a call answers of the files that are lent what the program answers of the files that it reads.
-- the file that is asked about is at its own path
pub mod OwnFiles
-- the paths of a manifest, one by one
pub mod PathByPath
