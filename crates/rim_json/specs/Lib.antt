pub mod ReportJson
pub mod inside
