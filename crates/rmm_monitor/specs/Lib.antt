pub mod inside
pub mod Growth
