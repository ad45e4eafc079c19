-- Eight course groups on one machine (document 02, E10): lists of calls of all groups over one table, the plain ledger of one group, and what is claimed of them.
pub mod Calls
pub mod Ledger
pub mod Shared
pub mod Claims
