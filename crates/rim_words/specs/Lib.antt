pub mod Command
pub mod Examples
pub mod inside
