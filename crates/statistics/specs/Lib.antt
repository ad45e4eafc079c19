-- polyfit's `statistics.rs`, as document 01's "Statistics" and the stand-in for `max_degree`'s root have it.
pub mod Table
pub mod TableLaws
pub mod Scores
pub mod Degrees
pub mod DegreeLaws
pub mod Medians
pub mod MedianLaws
pub mod Counting
pub mod Losses
pub mod LossLaws
pub mod Variances
pub mod VarianceLaws
