-- Reports of the season book.
pub mod Reports
pub mod ReportLaws
