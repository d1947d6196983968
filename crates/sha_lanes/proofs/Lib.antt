pub mod Rotations
pub mod ChMaj
pub mod LaneByLane
pub mod Pairs
pub mod Sums
pub mod TwoWords
