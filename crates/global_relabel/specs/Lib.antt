pub mod Rest
pub mod Laws
pub mod Search
pub mod Workspaces
pub mod NodeBlocks
pub mod Local
pub mod Lowering
