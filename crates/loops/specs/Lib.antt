-- One library of loops and places, which every crate above cites.
pub mod Loop
pub mod LoopLaws
pub mod Places
pub mod PlaceLaws
pub mod Fold
pub mod FoldLaws
pub mod Within
pub mod WithinLaws
pub mod All
pub mod AllLaws
pub mod Cases
pub mod Digits
pub mod DigitLaws
