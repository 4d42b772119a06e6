pub mod Entries
pub mod Filled
pub mod Gentle
pub mod Level
pub mod Under
pub mod Duality
