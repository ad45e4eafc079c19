-- The laws behind the square root.
pub mod Numbers
pub mod Guess
pub mod Packing
pub mod Reading
pub mod Closest
