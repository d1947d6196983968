pub mod SharedPrefixes
pub mod Jobs
pub mod Chains
pub mod OwnDigests
pub mod inside
