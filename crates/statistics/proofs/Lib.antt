-- Lemmas that belong to no one function.
pub mod Roots
pub mod Sorting
pub mod Counts
pub mod Deviations
pub mod Pairs
pub mod Kept
pub mod Ordered
