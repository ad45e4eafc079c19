-- A degree solved and measured, and the fit and the band of an asked one, as the calls that read samples share them.
pub mod Places
pub mod Measures
pub mod MeasureLaws
pub mod Fits
pub mod FitLaws
pub mod Bands
pub mod BandLaws
