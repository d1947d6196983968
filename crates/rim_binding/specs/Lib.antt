pub mod Collision
pub mod Chain
pub mod Event
pub mod Widths
pub mod LaunchEvents
pub mod HostEvents
pub mod Binding
