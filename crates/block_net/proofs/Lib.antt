mod Keeping
pub mod Tables
