pub mod Swaps
pub mod Laws
pub mod Looking
