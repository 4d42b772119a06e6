pub mod Gathering
pub mod Zeros
pub mod Listing
pub mod Ranges
pub mod Weighing
