-- Document 02's E6: the carry, and what it promises of all later calls.
pub mod Carry
pub mod CarryLaws
pub mod Carried
