pub mod Views
pub mod ByBlock
pub mod Raising
