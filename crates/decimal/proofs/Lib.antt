pub mod Searched
pub mod Quotient
pub mod Judged
pub mod Taken
