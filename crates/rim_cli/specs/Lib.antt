pub mod Done
pub mod Examples
pub mod Mapped
pub mod Replayed
pub mod Unread
pub mod inside
