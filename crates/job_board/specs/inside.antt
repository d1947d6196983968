pub mod Grouping
pub mod OwnStretches
