pub mod Nested
pub mod Keeping
pub mod Effects
pub mod Fronts
pub mod Raised
pub mod Counts
pub mod Given
