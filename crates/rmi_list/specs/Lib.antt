pub mod RecParams
pub mod Measured
pub mod Listed
pub mod Granules
pub mod Reason
pub mod Following
pub mod inside
pub mod Common
