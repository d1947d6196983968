pub mod Spans
pub mod Drafts
pub mod Acts
pub mod Plans
pub mod Common
pub mod Steps
