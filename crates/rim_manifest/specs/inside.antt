pub mod Kept
pub mod Findings
