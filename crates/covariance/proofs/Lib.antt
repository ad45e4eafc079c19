-- Lemmas that belong to no one function.
pub mod Rows
