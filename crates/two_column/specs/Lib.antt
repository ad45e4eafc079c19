-- Document 01's two-column book: the calls that change it, and demand 3 for them.
pub mod Pairs
pub mod PairLaws
pub mod Refusals
pub mod RefusalLaws
pub mod Calls
pub mod Many
pub mod CallLaws
pub mod Ledger
