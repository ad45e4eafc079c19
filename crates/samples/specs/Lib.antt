-- Samples, and the columns that they stand in.
pub mod Samples
pub mod Columns
pub mod Held
pub mod ColumnLaws
