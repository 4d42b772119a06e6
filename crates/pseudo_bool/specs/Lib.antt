pub mod Limits
pub mod Energies
pub mod Refusals
pub mod Rows
pub mod Hidden
