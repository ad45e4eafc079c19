-- E6's theorem.
pub mod Over
