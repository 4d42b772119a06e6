pub mod Told
pub mod Moving
pub mod Sums
pub mod Places
pub mod Entries
pub mod Telling
pub mod ByKnown
pub mod ByLabel
