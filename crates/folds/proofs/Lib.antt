pub mod Others
pub mod Own
pub mod Means
pub mod Reaching
