pub mod Answers
pub mod Options
pub mod Refusals
