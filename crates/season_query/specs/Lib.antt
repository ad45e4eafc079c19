-- The calls that read a stake of the season book: what they answer and write.
pub mod Reads
