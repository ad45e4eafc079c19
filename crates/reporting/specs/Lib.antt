-- A report over rows of any basis: the choice, what is written of it, and what its settings are refused by.
pub mod Refusals
pub mod RefusalLaws
pub mod Chosen
pub mod ChosenLaws
pub mod Outputs
pub mod Reports
pub mod Limited
pub mod LimitedLaws
