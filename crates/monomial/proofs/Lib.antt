-- Lemmas for the proofs.
pub mod Low
pub mod Parts
pub mod Surface
pub mod Lines
pub mod Upper
