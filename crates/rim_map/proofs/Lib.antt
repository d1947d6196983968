-- the JSON of a map is made part by part, and has no float
pub mod MapAsJson
-- so is that of a launch that is refused
pub mod RefusedMapAsJson
