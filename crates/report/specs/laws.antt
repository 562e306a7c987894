pub mod ReportLaws
pub mod LengthLaws
