pub mod MapJson
pub mod RefusedMap
pub mod inside
