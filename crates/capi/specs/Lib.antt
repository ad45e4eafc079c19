-- The C interface: how an answer is packed into one number, that what the calls answer fits, and that reading it gives the answer back.
pub mod Packed
pub mod Fitting
pub mod PairFitting
pub mod CarryFitting
pub mod LossFitting
pub mod ReplayFitting
pub mod Reading
pub mod ReadingLaws
pub mod ReportByLaws
pub mod SplitFitting
pub mod ScoresFitting
pub mod SurfaceFitting
pub mod GroupFitting
pub mod SeasonPacked
pub mod SeasonFitting
pub mod StakeFitting
