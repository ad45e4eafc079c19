-- Student's t table and the z scores: each number that the crate `statistics` reads is the quantile that it stands for. Definitions and theorems, no code.
-- Read Ratio and Quantile, which say what is claimed; then BySeries and ByArea, each with what a reader must believe of it; then the last law of SeriesCheck
-- and of AreaCheck, and `Only` of proofs/, by which no other entries pass. The z scores are in Normal and NormalCheck.
pub mod Ratio
pub mod RatioLaws
pub mod Quantile
pub mod QuantileLaws
pub mod Series
pub mod SeriesLaws
pub mod BySeries
pub mod SeriesCheck
pub mod Laws
pub mod ByArea
pub mod Parabolas
pub mod Lines
pub mod LineLaws
pub mod Tangent
pub mod TangentLaws
pub mod Strips
pub mod StripLaws
pub mod AreaPartitions
pub mod AreaCheck
pub mod Normal
pub mod NormalCheck
