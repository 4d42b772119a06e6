pub mod Limits
pub mod Ranges
