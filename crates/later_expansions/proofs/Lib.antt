pub mod Stages
pub mod Asked
