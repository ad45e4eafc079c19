-- Laws that the proofs of the functions cite, here and in the crates above.
pub mod Fitting
pub mod Banding
