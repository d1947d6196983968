pub mod Line
pub mod Trace
pub mod Ends
pub mod Typed
pub mod Spelled
pub mod inside
