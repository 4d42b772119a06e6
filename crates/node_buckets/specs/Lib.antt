pub mod Circles
pub mod Standing
