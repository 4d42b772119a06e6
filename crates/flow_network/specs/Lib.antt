pub mod Limits
pub mod Cut
pub mod Preflow
pub mod Labels
pub mod Answer
pub mod Laws
pub mod Progress
