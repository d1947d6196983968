pub mod Lent
pub mod Key
pub mod Page
pub mod Group
pub mod Table
pub mod Row
pub mod Ranges
pub mod inside
