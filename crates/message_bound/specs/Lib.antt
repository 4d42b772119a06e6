pub mod Rows
pub mod Costs
pub mod PairTables
pub mod Bounds
pub mod Duality
