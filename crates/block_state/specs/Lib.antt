pub mod Compact
pub mod AllWays
pub mod Counting
pub mod Pieces
pub mod Parts
pub mod Calls
