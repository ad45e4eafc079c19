-- Document 02's allowance for each course group (E10): the table of counters, and the calls that are charged to a group.
pub mod Table
pub mod TableLaws
pub mod Refusals
pub mod RefusalLaws
pub mod Charges
