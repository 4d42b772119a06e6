pub mod Swaps
pub mod Prelude
