pub mod Seen
pub mod Steps
pub mod Works
pub mod Turns
pub mod Active
pub mod Standing
pub mod Calls
