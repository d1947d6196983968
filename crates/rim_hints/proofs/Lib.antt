-- the place of a fault is its table and its key
pub mod TableWithKey
