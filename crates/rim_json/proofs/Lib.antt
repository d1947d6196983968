-- the report as JSON is made launch by launch, and has no float
pub mod ReportAsJson
