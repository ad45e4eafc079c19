-- The theorems on season books.
pub mod Lengths
pub mod Stakes
pub mod Columns
pub mod Written
pub mod Left
pub mod Turns
pub mod Lists
