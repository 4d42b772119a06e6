pub mod Writing
pub mod Steps
pub mod Allowing
pub mod Opened
pub mod ByBlock
pub mod Lowering
