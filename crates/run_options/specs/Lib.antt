pub mod Limits
pub mod Names
pub mod Ranges
pub mod Shapes
