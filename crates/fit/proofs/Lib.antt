pub mod Trials
pub mod Choosing
