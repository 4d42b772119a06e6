pub mod Stages
pub mod Prelude
