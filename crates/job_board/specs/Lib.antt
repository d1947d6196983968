pub mod History
pub mod Board
pub mod Gives
pub mod inside
