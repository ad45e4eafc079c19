-- Lent memory: as a call finds it and leaves it, and what is written to it.
pub mod Slices
pub mod Written
pub mod WrittenLaws
pub mod Gaps
pub mod GapLaws
