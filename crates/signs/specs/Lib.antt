-- Doubles that are opposite, zeros of either sign alike and NaN matching NaN, and what the float steps make of them.
pub mod Opposite
pub mod OppositeLaws
pub mod Negated
pub mod Zeros
pub mod Steps
pub mod Equal
pub mod Bits
