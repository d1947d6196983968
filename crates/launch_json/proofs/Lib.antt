-- the items of a launch are made one after another, and have no float
pub mod ItemsAsJson
