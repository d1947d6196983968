-- What the loops of this crate keep, and which pages go together.
pub mod Fresh
pub mod Lanes
