pub mod Closing
pub mod Parts
pub mod Telling
