-- Lemmas for the proofs.
pub mod Fronts
pub mod Steps
