pub mod Checkpoints
pub mod Places
pub mod UnderWay
