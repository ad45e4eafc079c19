-- Document 01's plain ledger, lists of calls, and what demand 3 says of them.
pub mod Ledger
pub mod ReadCalls
pub mod Words
pub mod Whole
