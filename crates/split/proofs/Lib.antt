pub mod Breaks
pub mod Corners
pub mod Searching
pub mod Splitting
