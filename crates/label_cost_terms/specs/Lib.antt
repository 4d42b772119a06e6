pub mod Limits
pub mod LabelCosts
pub mod Expansions
pub mod Prelude
