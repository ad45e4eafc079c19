-- The theorem over a list of calls.
pub mod Lists
pub mod Steps
pub mod Whole
pub mod Words
pub mod Book
