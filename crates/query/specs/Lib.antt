-- The calls fit, validate and band: their refusals, what they answer and write, and what they may answer.
pub mod Refusals
pub mod RefusalLaws
pub mod Fits
pub mod FitLaws
pub mod Bands
pub mod BandLaws
