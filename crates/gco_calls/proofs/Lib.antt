pub mod Bits
pub mod Given
pub mod PairLines
pub mod PairTold
pub mod Stretches
pub mod Tables
pub mod Told
