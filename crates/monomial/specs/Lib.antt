-- Samples, their rows of term values, and the sums of document 01.
pub mod Terms
pub mod TermLaws
pub mod Rows
pub mod RowLaws
pub mod Reading
pub mod ReadingLaws
pub mod Adding
pub mod AddingLaws
pub mod Sums
pub mod Plain
pub mod Parts
pub mod SumLaws
pub mod PlainLaws
pub mod Corner
pub mod CornerLaws
pub mod Upper
pub mod UpperLaws
