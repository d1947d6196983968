pub mod AtOnce
pub mod Files
pub mod Status
