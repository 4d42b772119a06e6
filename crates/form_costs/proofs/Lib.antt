pub mod Values
pub mod Best
pub mod Adding
