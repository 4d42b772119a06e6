pub mod Ends
pub mod Sizes
