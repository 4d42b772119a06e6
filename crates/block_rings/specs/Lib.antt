pub mod Joined
pub mod Joining
pub mod Mated
pub mod Left
pub mod Links
pub mod Draining
pub mod Kept
pub mod Pairing
