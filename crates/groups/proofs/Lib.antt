-- The theorems on eight groups that share one table.
pub mod Tables
pub mod Isolation
pub mod Ledgers
pub mod Costing
