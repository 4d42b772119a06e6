pub mod Settled
pub mod Bounds
