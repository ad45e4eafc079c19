-- The sizes that document 01 names, and the number of coefficients of a degree.
pub mod Sizes
pub mod Counts
pub mod CountLaws
