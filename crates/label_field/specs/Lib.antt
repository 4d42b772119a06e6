pub mod Limits
pub mod LabelFields
pub mod PairLists
pub mod Grids
