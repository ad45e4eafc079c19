pub mod Covariance
pub mod Marks
pub mod MarkLaws
pub mod Bands
pub mod BandsFrom
pub mod Pruning
pub mod Spread
pub mod SpreadLaws
