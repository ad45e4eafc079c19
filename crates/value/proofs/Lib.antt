pub mod Positive
pub mod Products
pub mod SquareRoot
pub mod Split
