-- Helper laws of the proofs.
pub mod Hexadecimal
pub mod Pairs
pub mod Spelled
