-- What the proofs of these calls share.
pub mod Readings
