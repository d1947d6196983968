pub mod Jobs
pub mod Step
pub mod Events
pub mod Values
pub mod inside
