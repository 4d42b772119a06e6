pub mod Limits
pub mod Views
pub mod CellsInside
pub mod Lists
pub mod Whole
