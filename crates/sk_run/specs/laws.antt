pub mod ReportLaws
pub mod WorkedReports
