pub mod AuditFaults
pub mod Accepted
pub mod Outcomes
pub mod Reasons
pub mod Lines
pub mod Devicetree
pub mod Headline
