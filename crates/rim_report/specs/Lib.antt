pub mod Plans
pub mod Report
pub mod Values
pub mod inside
