-- Machines over lists of calls.
pub mod Runs
pub mod RunLaws
