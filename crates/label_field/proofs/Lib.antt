pub mod GridSteps
pub mod Members
pub mod Neighbours
pub mod Apart
pub mod GridLaws
pub mod Numbers
