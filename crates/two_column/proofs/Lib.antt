-- Laws that the proofs of the functions cite.
pub mod Opening
pub mod Frames
pub mod Weighted
pub mod Whole
