pub mod LabelCosts
pub mod Moved
pub mod Refusals
pub mod Building
pub mod Turning
pub mod PlainBuilding
pub mod Prelude
