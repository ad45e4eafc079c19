-- Laws that the proofs of the functions cite.
pub mod Choosing
pub mod Writing
pub mod Reporting
pub mod Limiting
