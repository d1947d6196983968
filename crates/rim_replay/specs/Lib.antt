pub mod Replay
pub mod Kinds
