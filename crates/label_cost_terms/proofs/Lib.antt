pub mod Uses
pub mod Costing
