-- Document 02's melt season and cold season (E8): the break of a list in two sides whose chosen scores total least.
pub mod Search
pub mod Words
pub mod SearchLaws
pub mod Refusals
pub mod Rooms
pub mod RefusalLaws
pub mod Splits
pub mod SplitLaws
