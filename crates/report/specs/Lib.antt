-- Document 01's report: its refusals, the choice, what it writes, and what it answers.
pub mod Refusals
pub mod Rooms
pub mod RefusalLaws
pub mod Reports
pub mod ChosenLaws
pub mod ReportLaws
pub mod Limited
pub mod LimitedLaws
