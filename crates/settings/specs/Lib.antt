-- The settings of a report by the numbers that records and the C interface name them by.
pub mod Numbers
pub mod NumberLaws
