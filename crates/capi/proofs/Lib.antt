-- Laws that the proofs of the C interface cite.
pub mod Promises
pub mod SeasonPromises
pub mod StakePromises
