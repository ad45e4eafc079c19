pub mod Counted
pub mod Found
