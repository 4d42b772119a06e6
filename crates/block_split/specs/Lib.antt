pub mod Split
pub mod Slots
