-- Document 01's solution and inverse of the corner of A.
pub mod Solve
pub mod SolveLaws
pub mod Corner
pub mod CornerLaws
pub mod Laws
pub mod Columns
pub mod ColumnLaws
pub mod Nested
pub mod NestedLaws
