-- To prove: `run` has written what is to be written of the files, for the request that the words are for.
-- what holds of the release that was read holds of the one that the manifest describes, and of a launch by its name
pub mod ReleaseOfManifest
-- A run over a manifest in memory writes the report of the manifest, or of its fault
pub mod RunInMemory
-- what a check says of files that cannot be read
pub mod FaultsOfFiles
-- and of launches, where all files are read
pub mod CheckedLaunches
-- the map of a launch is that of the launch of its name, and its status says whether it is refused
pub mod MapsOfLaunches
-- what came of the launch of a number is that launch's own
pub mod RimsOfLaunches
